-- The steps of putting a product to a sum, and the first of some steps that would overflow.
use Rattle.std.specs.Prelude.{◌≡◌, ℤ, ◌*ℤ◌, List, [], ◌∷◌, ◌++◌, All}
use Rattle.wx_num.specs.declared.excess.NumOp.TheVariants.{Times}
use Rattle.wx_num.specs.declared.excess.Excess.{Excess}
use Rattle.wx_num.specs.Excess.{Overflows}
use Rattle.mix_system.specs.declared.literal.Side.{Side}
use Rattle.mix_system.specs.FarkasSum.{sum_op}
use Rattle.proof_term.specs.Steps.{StaysWithin}

-- the product, and what puts it to the sum on a side
abbrev pub product_steps : Side → (sum by factor : ℤ) → List Excess
product_steps side sum by factor = (record { op = Times; x = by; y = factor }) ∷ (record { op = sum_op side; x = sum; y = by *ℤ factor }) ∷ []

-- the step would overflow, and all steps before it stay within i128
pub record IsFirstExcess (steps : List Excess) (excess : Excess) : Type 0 where
  pub before : List Excess
  pub after : List Excess
  pub split : steps ≡ before ++ excess ∷ after
  pub stay : All StaysWithin before
  pub overflows : Overflows excess
