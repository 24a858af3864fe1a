use Rattle.mixed_solver.proofs.FreshLaws.{learnt_goes}
use Rattle.std.proofs.Common.{sym, subst}
use Rattle.level_search.specs.declared.level.LevelSearch.{LevelSearch}
use Rattle.mixed_solver.specs.declared.solving.Turn.{Turn}
use Rattle.mixed_solver.specs.Mixed.{GoesOn}
use Rattle.mixed_solver.specs.Turns.{Turns, turned}
use Rattle.mixed_solver.proofs.MixedLaws.{learnt_stays, still_bounds}
use Rattle.mixed_solver.proofs.TurnLaws.{learnt_turns, learnt_budget}
use Rattle.mixed_solver.proofs.mixed.Mixed.learn.Goals as goal

pub give_back-requires-clause-bounds : goal.give_back-requires-clause-bounds
give_back-requires-clause-bounds c =
    let it = c.args.self.now in
    let new = c.learn.new.self in
    still_bounds it c.requires.mixed new (learnt_stays it new c.in_ok-learning.learning c.requires.mixed c.trail-trail.ensures.trail c.in_ok-learning.ensures.concludes)

pub give_back-requires-clause-ground : goal.give_back-requires-clause-ground
give_back-requires-clause-ground c =
    (learnt_stays c.args.self.now c.learn.new.self c.in_ok-learning.learning c.requires.mixed c.trail-trail.ensures.trail c.in_ok-learning.ensures.concludes).ground

pub returns-clause-goes_on : goal.returns-clause-goes_on
returns-clause-goes_on c =
    let it = c.args.self.now in
    subst (GoesOn it.level) (sym c.give_back.ensures.level)
    (learnt_goes it c.requires.mixed c.trail-trail.ensures.trail c.learn.new.self c.in_ok-learning.learning c.in_ok-learning.ensures.concludes)

pub returns-clause-turns : goal.returns-clause-turns
returns-clause-turns c =
    let it = c.args.self.now in
    let new = c.learn.new.self in
    let given = c.give_back.new.self in
    let learning = c.in_ok-learning.learning in
    let stays = learnt_stays it new learning c.requires.mixed c.trail-trail.ensures.trail c.in_ok-learning.ensures.concludes in
    let turns = learnt_turns it new given.bounds learning c.args.tally.now c.learn.new.tally c.requires.mixed stays c.in_ok-learning.ensures.concludes c.in_ok-learning.ensures.counted
    c.give_back.ensures.bounds c.give_back.ensures.ground in
    subst (λ (t : Turn). Turns t given c.args.tally.now c.learn.new.tally) (sym c.turned.ensures)
    (subst (λ (l : LevelSearch). Turns (turned learning) (record { level = l; bounds = given.bounds }) c.args.tally.now c.learn.new.tally) (sym c.give_back.ensures.level) turns)

pub returns-clause-budget : goal.returns-clause-budget
returns-clause-budget c = learnt_budget c.in_ok-learning.learning c.args.tally.now c.learn.new.tally c.in_ok-learning.ensures.counted
