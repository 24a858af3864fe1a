use Rattle.std.proofs.Common.{◌≡◌, ℕ, ◌<◌, ◌≤◌, length, pos}
use Rattle.mix_system.specs.declared.literal.Side.{Side}
use Rattle.mix_system.specs.Row.{number_at}
use Rattle.bounded_simplex.specs.Point.{Admits}
use Rattle.bounded_simplex.specs.Refutation.{bound_on}
use Rattle.bounded_simplex.specs.Settled.{StaysBetween}
use Rattle.bounded_simplex.proofs.settle.settle.Given as goal

abbrev pub invariant-loop-column : goal.invariant-loop-column
invariant-loop-column l =
    record {
      count : length l.values.items ≡ length l.initial.values.items;
      moved : (column : ℕ) → column < l.column → StaysBetween l.bounds column (number_at l.initial.values.items column) (number_at l.values.items column);
      later : (column : ℕ) → l.column ≤ column → number_at l.values.items column ≡ number_at l.initial.values.items column;
      kept : (column : ℕ) (side : Side) → column < l.column → Admits side (bound_on l.bounds column side) (pos 1) (number_at l.values.items column);
    }
