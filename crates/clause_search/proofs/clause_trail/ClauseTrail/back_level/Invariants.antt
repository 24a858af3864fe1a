use Rattle.std.proofs.Common.{ℕ, ◌<◌, ◌≤◌}
use Rattle.clause_search.specs.Marks.{IsSeen}
use Rattle.clause_search.proofs.clause_trail.ClauseTrail.back_level.Given as goal

abbrev pub invariant-loop-at : goal.invariant-loop-at
invariant-loop-at l = ((k : ℕ) → l.at ≤ k → k < l.start → ¬ IsSeen l.marks.items k) × (l.at ≤ l.start)

abbrev pub decreases-loop-at : goal.decreases-loop-at
decreases-loop-at l = l.at
