use Rattle.std.proofs.Common.{◌≤◌}
use Rattle.clause_search.specs.Marks.{ResolvesFrom}
use Rattle.clause_search.proofs.clause_trail.ClauseTrail.resolve_below.Given as goal

abbrev pub invariant-loop-at : goal.invariant-loop-at
invariant-loop-at l = ResolvesFrom l.self l.at l.base l.initial.marks.items l.marks.items × (l.at ≤ l.base)

abbrev pub decreases-loop-at : goal.decreases-loop-at
decreases-loop-at l = l.at
