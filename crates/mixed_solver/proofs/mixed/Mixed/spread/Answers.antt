use Rattle.level_search.proofs.KeptLaws.{ok_more}
use Rattle.mixed_solver.proofs.FreshLaws.{goes_same, goes_on_trans}
use Rattle.std.proofs.Common.{subst}
use Rattle.clause_search.specs.Answers.{Says}
use Rattle.mixed_solver.proofs.MixedLaws.{mixed_grown}
use Rattle.mixed_solver.proofs.mixed.Mixed.spread.Goals as goal

pub learn-requires-clause-mixed : goal.learn-requires-clause-mixed
learn-requires-clause-mixed c =
    mixed_grown c.args.self.now c.requires.mixed c.propagate.new.self c.args.tally.now c.propagate.new.tally c.trail-trail.ensures.trail c.propagate.ensures.kept c.propagate.ensures.level
    c.propagate.ensures.steps c.in_ok-propagate.ensures.propagated

pub look-requires-clause-mixed : goal.look-requires-clause-mixed
look-requires-clause-mixed c =
    mixed_grown c.args.self.now c.requires.mixed c.propagate.new.self c.args.tally.now c.propagate.new.tally c.trail-trail.ensures.trail c.propagate.ensures.kept c.propagate.ensures.level
    c.propagate.ensures.steps c.in_ok-propagate.ensures.propagated

pub returns-in-Spent-clause-goes_on : goal.returns-in-Spent-clause-goes_on
returns-in-Spent-clause-goes_on c = goes_same c.args.self.now.level c.propagate.new.self c.propagate.ensures.level c.propagate.ensures.steps

pub returns-in-Conflict-clause-goes_on : goal.returns-in-Conflict-clause-goes_on
returns-in-Conflict-clause-goes_on c =
    let it = c.args.self.now in
    let mid = goes_same it.level c.propagate.new.self c.propagate.ensures.level c.propagate.ensures.steps in
    ok_more c.learn.result _ _ (goes_on_trans it.level c.propagate.new.self c.learn.new.self.level mid) c.learn.ensures.goes_on

pub returns-in-Quiet-clause-goes_on : goal.returns-in-Quiet-clause-goes_on
returns-in-Quiet-clause-goes_on c =
    let it = c.args.self.now in
    let mid = goes_same it.level c.propagate.new.self c.propagate.ensures.level c.propagate.ensures.steps in
    ok_more c.look.result _ _ (goes_on_trans it.level c.propagate.new.self c.look.new.self.level mid) c.look.ensures.goes_on

pub returns-in-Spent-clause-turns : goal.returns-in-Spent-clause-turns
returns-in-Spent-clause-turns c =
    let spent = subst (λ s. Says s c.propagate.new.self.search c.propagate.new.tally) c.in-Spent.is c.in_ok-propagate.ensures.says in (
      spent.at_budget,
      mixed_grown c.args.self.now c.requires.mixed c.propagate.new.self c.args.tally.now c.propagate.new.tally c.trail-trail.ensures.trail c.propagate.ensures.kept c.propagate.ensures.level
          c.propagate.ensures.steps c.in_ok-propagate.ensures.propagated,
    )
