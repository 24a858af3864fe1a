use Rattle.std.proofs.Common.{ℕ, ◌<◌, List, ℤ}
use Rattle.mix_system.specs.declared.literal.Side.{Side}
use Rattle.bounded_simplex.specs.Combination.{IsCalmBox}
use Rattle.bounded_simplex.specs.Sums.{IsFixedAt, KeepsSum}
use Rattle.bounded_simplex.proofs.sums.refute_sums.Given as goal

abbrev pub invariant-loop-row : goal.invariant-loop-row
invariant-loop-row l =
    IsCalmBox l.bounds → (point : List ℤ) → IsFixedAt l.bounds point → (k : ℕ) (side : Side) → k < l.row → KeepsSum l.bounds point k side
