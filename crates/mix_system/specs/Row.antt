-- The sum of a row at a point, and its steps.
use Rattle.std.specs.Prelude.{◌≡◌, ◌⊎◌, ℕ, ℤ, pos, ◌*ℤ◌, List, ◌∷◌, ◌++◌, slice_index_or}
use Rattle.wx_num.specs.declared.excess.NumOp.TheVariants.{Plus, Times}
use Rattle.wx_num.specs.declared.excess.Excess.{Excess}
use Rattle.mix_system.specs.Sum.{int_sum_by}
use Rattle.mix_system.specs.declared.row.Part.{Part}

-- a variable's number at a point
abbrev pub number_at : List ℤ → ℕ → ℤ
number_at point var = slice_index_or point var (pos 0)

-- a part's coefficient times its variable's number
abbrev pub product_at : List ℤ → Part → ℤ
product_at point part = part.coeff *ℤ number_at point part.var

-- the sum of the products of a row's parts
abbrev pub row_value : List Part → List ℤ → ℤ
row_value parts point = int_sum_by (product_at point) parts

-- the step is a product of the row's sum, or adds a product to the sum of the products before it
pub record IsStepOf (parts : List Part) (point : List ℤ) (step : Excess) : Type 0 where
  pub before : List Part
  pub part : Part
  pub after : List Part
  pub split : parts ≡ before ++ part ∷ after
  pub numbers : (step ≡ record { op = Times; x = part.coeff; y = number_at point part.var })
      ⊎ (step ≡ record { op = Plus; x = row_value before point; y = product_at point part })
