use Rattle.std.proofs.Common.{◌≤◌}
use Rattle.clause_search.specs.Marks.{MarksCauses}
use Rattle.clause_search.proofs.clause_trail.ClauseTrail.mark_causes.Given as goal

abbrev pub invariant-loop-at : goal.invariant-loop-at
invariant-loop-at l = MarksCauses l.self.trail l.clause l.at l.start l.low l.initial.marks.items l.marks.items × (l.low ≤ l.lowest)
