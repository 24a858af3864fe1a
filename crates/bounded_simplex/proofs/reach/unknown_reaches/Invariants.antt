use Rattle.std.proofs.Common.{◌≡◌, ℕ, ◌<◌, length, get_or}
use Rattle.bounded_simplex.specs.Reach.{IsReachOf}
use Rattle.bounded_simplex.specs.declared.reach.Reach.{Reach}
use Rattle.bounded_simplex.proofs.reach.unknown_reaches.Given as goal

abbrev pub invariant-loop-row : goal.invariant-loop-row
invariant-loop-row l =
    record {
      count : length l.reaches.items ≡ l._row;
      each : (row : ℕ) (d : Reach) → row < l._row → IsReachOf l.system row (get_or l.reaches.items row d);
    }
