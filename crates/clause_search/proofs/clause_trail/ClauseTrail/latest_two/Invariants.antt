use Rattle.bound_trail.specs.Trail.{box}
use Rattle.clause_search.specs.Visited.{IsLatest}
use Rattle.clause_search.proofs.clause_trail.ClauseTrail.latest_two.Given as goal

abbrev pub invariant-loop-at : goal.invariant-loop-at
invariant-loop-at l = IsLatest (box l.self.trail) l.clause l.at l.latest
