use Rattle.std.proofs.Common.{ℕ, ◌<◌, ◌≤◌}
use Rattle.bound_trail.specs.Trail.{level_end}
use Rattle.clause_search.proofs.clause_trail.ClauseTrail.level_of.Given as goal

abbrev pub invariant-loop-level : goal.invariant-loop-level
invariant-loop-level l = (earlier : ℕ) → earlier < l.level → level_end l.self.trail earlier ≤ l.at
