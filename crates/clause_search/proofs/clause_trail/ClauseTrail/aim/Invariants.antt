use Rattle.clause_search.specs.Runs.{IsAimSoFar}
use Rattle.clause_search.proofs.clause_trail.ClauseTrail.aim.Given as goal

abbrev pub invariant-loop-at : goal.invariant-loop-at
invariant-loop-at l = IsAimSoFar l.self l.at l.end l.last
