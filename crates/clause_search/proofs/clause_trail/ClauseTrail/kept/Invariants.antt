use Rattle.clause_search.specs.Runs.{AreKept}
use Rattle.clause_search.proofs.clause_trail.ClauseTrail.kept.Given as goal

abbrev pub invariant-loop-at : goal.invariant-loop-at
invariant-loop-at l = AreKept l.self.trail l.marks.items l.at l.kept
