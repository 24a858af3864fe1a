-- The sums of the variables, and what the parts of a combination do to them.
use Rattle.std.specs.Prelude.{◌≡◌, ◌≢◌, ◌⊎◌, ℕ, ℤ, pos, ◌+ℤ◌, ◌*ℤ◌, List, [], ◌∷◌, length, Bool, true, false}
use Rattle.mix_system.specs.declared.literal.Side.{Side}
use Rattle.mix_system.specs.declared.row.Part.{Part}
use Rattle.mix_system.specs.declared.farkas.FarkasPart.{FarkasPart}
use Rattle.mix_system.specs.Sum.{int_sum_by}
use Rattle.mix_system.specs.Row.{number_at}
use Rattle.mix_system.specs.FarkasSum.{parts_of, coeff_on, by_side, weight}
use Rattle.leaf_check.specs.declared.sums.Sums.{Sums}

-- so many sums, and all are 0
pub record IsClear (vars : ℕ) (sums : Sums) : Type 0 where
  pub one_each : length sums.numbers.items ≡ vars
  pub all_zero : (var : ℕ) → number_at sums.numbers.items var ≡ pos 0

-- some part is of that variable
abbrev pub Names : List Part → ℕ → Type 0
Names [] var = ⊥
Names (part ∷ parts) var = (var ≡ part.var) ⊎ Names parts var

-- some literal's term has a part of that variable
abbrev pub NamesAny : List (List Part) → List FarkasPart → ℕ → Type 0
NamesAny rows [] var = ⊥
NamesAny rows (part ∷ parts) var = Names (parts_of rows part.lit.term) var ⊎ NamesAny rows parts var

-- only sums of these variables are others than before
pub record Changes (named : ℕ → Type 0) (old new : List ℤ) : Type 0 where
  pub one_each : length new ≡ length old
  pub others_stay : (var : ℕ) → (number_at new var ≡ number_at old var) ⊎ named var

-- the parts were added so many times on a side
abbrev pub Adds : Side → ℤ → List Part → (old new : List ℤ) → Type 0
Adds side by parts old new =
    (var : ℕ) → number_at new var ≡ number_at old var +ℤ by_side side (by *ℤ int_sum_by (coeff_on var) parts)

-- the literals were added, so many times each
abbrev pub AddsAll : List (List Part) → List FarkasPart → (old new : List ℤ) → Type 0
AddsAll rows parts old new = (var : ℕ) → number_at new var ≡ number_at old var +ℤ int_sum_by (weight rows var) parts

-- The sums of the named variables but for those that are left are 0 now, and all others stayed. The answer says whether they were 0 before.
pub record Settles (named left : ℕ → Type 0) (old new : List ℤ) (were_zero : Bool) : Type 0 where
  pub one_each : length new ≡ length old
  pub cleared : (var : ℕ) → named var → (number_at new var ≡ pos 0) ⊎ left var
  pub kept : (var : ℕ) → (number_at new var ≡ number_at old var) ⊎ (number_at new var ≡ pos 0)
  pub same : were_zero ≡ true → new ≡ old
  pub other : were_zero ≡ false → (var : ℕ) × (number_at old var ≢ pos 0)
