use Rattle.std.proofs.Common.{sym}
use Rattle.open_levels.proofs.EndedLaws.{steps_found, steps_rise}
use Rattle.open_levels.proofs.ended.EndedSteps.place.Goals as goal

pub returns-clause-found : goal.returns-clause-found
returns-clause-found c =
    let it = c.self.inside in
    rw (← c.self.view_is) (steps_found it.lits.items it.marks.items c.args.number c.place_of.result (rw c.as_slice.ensures.value at c.place_of.ensures))

pub returns-clause-rising : goal.returns-clause-rising
returns-clause-rising c = let it = c.self.inside in rw (← c.self.view_is) (steps_rise it.lits.items it.marks.items c.self.invariant.ordered)
