use Rattle.std.proofs.Common.{◌∙◌, subst}
use Rattle.mixed_solver.specs.Turns.{Turns}
use Rattle.mixed_solver.proofs.FreshLaws.{goes_on_trans}
use Rattle.mixed_solver.proofs.mixed.Mixed.solve.Goals as goal

pub loop-point-preserved : goal.loop-point-preserved
loop-point-preserved c =
    let so_far = c.loop-point.invariant in
    let now = c.loop-point.self in
    let turns = subst (λ turn. Turns turn c.turn.new.self c.loop-point.tally c.turn.new.tally) c.in-Going.is c.in_ok-turn.ensures.turns in
    record {
      mixed = turns.0;
      goes_on = goes_on_trans c.args.self.now.level now.level c.turn.new.self.level so_far.goes_on c.in_ok-turn.ensures.goes_on;
      budget = c.in_ok-turn.ensures.budget ∙ so_far.budget;
    }

pub returns-in-Found-clause-goes_on : goal.returns-in-Found-clause-goes_on
returns-in-Found-clause-goes_on c =
    let one = goes_on_trans c.args.self.now.level c.loop-point.self.level c.turn.new.self.level c.loop-point.invariant.goes_on c.in_ok-turn.ensures.goes_on in
    goes_on_trans c.args.self.now.level c.turn.new.self.level c.back_to_ground.new.self.level one c.back_to_ground.ensures.goes_on

pub returns-in-Impossible-clause-goes_on : goal.returns-in-Impossible-clause-goes_on
returns-in-Impossible-clause-goes_on c =
    goes_on_trans c.args.self.now.level c.loop-point.self.level c.turn.new.self.level c.loop-point.invariant.goes_on c.in_ok-turn.ensures.goes_on

pub returns-in-Spent-clause-goes_on : goal.returns-in-Spent-clause-goes_on
returns-in-Spent-clause-goes_on c =
    goes_on_trans c.args.self.now.level c.loop-point.self.level c.turn.new.self.level c.loop-point.invariant.goes_on c.in_ok-turn.ensures.goes_on
