use Rattle.std.proofs.Common.{ℕ, take, All}
use Rattle.std.specs.Prelude.{unsigned_abs}
use Rattle.std.specs.Int.{◌∣◌}
use Rattle.tableau_rows.proofs.reduction.common_divisor.Given as goal

abbrev pub invariant-loop-entry : goal.invariant-loop-entry
invariant-loop-entry l =
    record {
      divides : All (λ entry. l.divisor ∣ unsigned_abs entry.coeff) (take l.entry-index l.entries);
      greatest : (d : ℕ) → All (λ entry. d ∣ unsigned_abs entry.coeff) (take l.entry-index l.entries) → d ∣ l.divisor;
    }
