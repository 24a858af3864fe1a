use Rattle.bound_trail.specs.Trail.{box}
use Rattle.clause_search.specs.Visited.{AreFalseBut}
use Rattle.clause_search.proofs.watches.find_left.Given as goal

abbrev pub invariant-loop-at : goal.invariant-loop-at
invariant-loop-at l = AreFalseBut (box l.trail) l.clause l.other l.at
