-- The values of columns that are moved to a bound.
use Rattle.std.specs.Prelude.{◌≡◌, ℕ, ◌<◌, ℤ, pos, ◌≤ℤ◌, List, length, slice_index_or, Option, None, Some, set}
use Rattle.mix_system.specs.Row.{number_at}
use Rattle.mix_system.specs.System.{System}
use Rattle.mix_system.specs.declared.literal.Side.TheVariants.{Le, Ge}
use Rattle.bounded_simplex.specs.InForce.{BoundChanges}
use Rattle.bounded_simplex.specs.Refutation.{bound_on}

-- the column has the value of the bound, where there is one
abbrev pub at_bound : List ℤ → ℕ → Option ℤ → List ℤ
at_bound values column None = values
at_bound values column (Some bound) = set values column bound

-- each variable's column has the low end of its range
abbrev pub AreLow : System → List ℤ → Type 0
AreLow system values = (var : ℕ) → var < length system.ranges → number_at values var ≡ (slice_index_or system.ranges var (pos 0, pos 0)).0

-- a value that stays, or moves up to a lower bound, or down to an upper one
pub data IsMoved (low high : Option ℤ) (old new : ℤ) : Type 0 where
  stays : new ≡ old → IsMoved low high old new
  up : low ≡ Some new → old ≤ℤ new → IsMoved low high old new
  down : high ≡ Some new → new ≤ℤ old → IsMoved low high old new

-- so does the value of a column, to its bounds in force
abbrev pub StaysBetween : BoundChanges → ℕ → ℤ → ℤ → Type 0
StaysBetween bounds column old new = IsMoved (bound_on bounds column Ge) (bound_on bounds column Le) old new
