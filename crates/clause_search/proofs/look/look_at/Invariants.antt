use Rattle.bound_trail.specs.Trail.{box}
use Rattle.clause_search.specs.Looks.{IsSeen}
use Rattle.clause_search.proofs.look.look_at.Given as goal

abbrev pub invariant-loop-at : goal.invariant-loop-at
invariant-loop-at l = IsSeen (box l.trail) l.clause l.at l.left
