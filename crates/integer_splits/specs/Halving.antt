-- A variable's range in force, and the number at which it is halved.
use Rattle.std.specs.Prelude.{◌≡◌, ℕ, ◌+◌, ◌<◌, cond, ℤ, pos, ◌+ℤ◌, ◌-ℤ◌, ◌≤ℤ◌, ◌<ℤ◌, int_lt, unsigned_abs, List, [], ◌∷◌, length, Option, Some}
use Rattle.std.specs.Int.Digits.{digits_of}
use Rattle.mix_system.specs.declared.literal.Side.TheVariants.{Le, Ge}
use Rattle.mix_system.specs.declared.literal.Term.TheVariants.{Var}
use Rattle.bounded_simplex.specs.InForce.{BoundChanges, in_force}

-- `at` is the middle of the variable's range in force, rounded down: at least the low end and below the high one, and both halves are
-- at most half as wide
pub record IsHalving (bounds : BoundChanges) (var : ℕ) (at : ℤ) : Type 0 where
  pub within : var < length bounds.system.ranges
  pub low : ℤ
  pub high : ℤ
  pub below : in_force bounds (Var var) Ge ≡ Some low
  pub above : in_force bounds (Var var) Le ≡ Some high
  pub lower : low ≤ℤ at
  pub upper : at <ℤ high
  pub low_half : ((at -ℤ low) +ℤ (at -ℤ low)) ≤ℤ (high -ℤ low)
  pub high_half : (high -ℤ low) ≤ℤ ((at -ℤ low) +ℤ (at -ℤ low) +ℤ pos 1)

-- how much wider than one number a range is
abbrev pub gap : Option ℤ → Option ℤ → ℕ
gap (Some low) (Some high) = cond (int_lt low high) (unsigned_abs (high -ℤ low)) 0
gap _ _ = 0

abbrev pub width : BoundChanges → ℕ → ℕ
width bounds var = gap (in_force bounds (Var var) Ge) (in_force bounds (Var var) Le)

-- how often a range of that width can be halved
abbrev pub digits : ℕ → ℕ
digits width = length (digits_of 2 width)

-- how often the ranges in force of the variables from one on can be halved
abbrev pub depth_from : BoundChanges → ℕ → List (ℤ × ℤ) → ℕ
depth_from bounds var [] = 0
depth_from bounds var (range ∷ ranges) = digits (width bounds var) + depth_from bounds (var + 1) ranges

abbrev pub depth : BoundChanges → ℕ
depth bounds = depth_from bounds 0 bounds.system.ranges
