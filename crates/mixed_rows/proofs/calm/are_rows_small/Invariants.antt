use Rattle.std.proofs.Common.{ℕ, ◌<◌, ◌^◌, List, All, get_or}
use Rattle.mix_system.specs.Calm.{IsSmall, row_size}
use Rattle.mix_system.specs.declared.row.Part.{Part}
use Rattle.mixed_rows.proofs.calm.are_rows_small.Given as goal

abbrev pub invariant-loop-row : goal.invariant-loop-row
invariant-loop-row l =
    record {
      coefficients : (k : ℕ) (d : List Part) → k < l.row → All (λ part. IsSmall part.coeff) (get_or l.system.rows k d);
      sums : (k : ℕ) (d : List Part) → k < l.row → row_size l.system.ranges (get_or l.system.rows k d) < 2 ^ 100;
    }
