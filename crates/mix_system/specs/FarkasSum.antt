-- When a combination of literals refutes a box (J. Farkas, Theorie der einfachen Ungleichungen, 1902), and the steps of working it.
use Rattle.std.specs.Prelude.{◌≡◌, ℕ, ◌==◌, cond, ℤ, pos, neg_ℤ, ◌+ℤ◌, ◌*ℤ◌, ◌<ℤ◌, List, [], ◌∷◌, ◌++◌, slice_index_or, All}
use Rattle.wx_num.specs.declared.excess.NumOp.{NumOp}
use Rattle.wx_num.specs.declared.excess.NumOp.TheVariants.{Plus, Minus, Times}
use Rattle.wx_num.specs.declared.excess.Excess.{Excess}
use Rattle.mix_system.specs.declared.literal.Term.{Term}
use Rattle.mix_system.specs.declared.literal.Term.TheVariants.{Var, Row}
use Rattle.mix_system.specs.declared.literal.Side.{Side}
use Rattle.mix_system.specs.declared.literal.Side.TheVariants.{Le, Ge}
use Rattle.mix_system.specs.declared.literal.Lit.{Lit}
use Rattle.mix_system.specs.declared.row.Part.{Part}
use Rattle.mix_system.specs.declared.farkas.FarkasPart.{FarkasPart}
use Rattle.mix_system.specs.Sum.{int_sum_by}
use Rattle.mix_system.specs.Bounds.{IsIn}

-- the parts whose sum a term is: of a variable itself once, of a row its own
abbrev pub parts_of : List (List Part) → Term → List Part
parts_of rows (Var var) = (record { coeff = pos 1; var = var }) ∷ []
parts_of rows (Row row) = slice_index_or rows row []

-- a part's coefficient on a variable
abbrev pub coeff_on : ℕ → Part → ℤ
coeff_on var part = cond (part.var == var) part.coeff (pos 0)

-- `<=` counts with plus, `>=` with minus
abbrev pub by_side : Side → ℤ → ℤ
by_side Le number = number
by_side Ge number = neg_ℤ number

-- how often a variable counts in a literal that is taken so many times
abbrev pub weight : List (List Part) → ℕ → FarkasPart → ℤ
weight rows var part = by_side part.lit.side (part.by *ℤ int_sum_by (coeff_on var) (parts_of rows part.lit.term))

-- the literal's bound, taken so many times
abbrev pub bound_weight : FarkasPart → ℤ
bound_weight part = by_side part.lit.side (part.by *ℤ part.lit.bound)

-- each literal is in the box, all variables cancel out, and the bounds add up to less than 0
pub record FarkasRefutes (rows : List (List Part)) (box : List Lit) (parts : List FarkasPart) : Type 0 where
  pub in_box : All (λ part. IsIn box part.lit) parts
  pub vanishes : (var : ℕ) → int_sum_by (weight rows var) parts ≡ pos 0
  pub contradictory : int_sum_by bound_weight parts <ℤ pos 0

-- how a product is put to a sum
abbrev pub sum_op : Side → NumOp
sum_op Le = Plus
sum_op Ge = Minus

-- The steps of taking a term's parts so many times on a side, in their order, where `sums` has each variable's sum so far: each
-- coefficient's product, and then the step that puts it to its variable's sum.
abbrev pub term_steps : Side → (by : ℤ) (sums : ℕ → ℤ) → List Part → List Excess
term_steps side by sums [] = []
term_steps side by sums (part ∷ parts) =
    (record { op = Times; x = by; y = part.coeff }) ∷ (record { op = sum_op side; x = sums part.var; y = by *ℤ part.coeff })
    ∷ term_steps side by (λ var. sums var +ℤ by_side side (by *ℤ coeff_on var part)) parts

-- The same for a list of literals: each one's term, then its bound's product and the step that puts it to the constant.
abbrev pub leaf_steps_from : List (List Part) → (sums : ℕ → ℤ) (constant : ℤ) → List FarkasPart → List Excess
leaf_steps_from rows sums constant [] = []
leaf_steps_from rows sums constant (part ∷ parts) =
    term_steps part.lit.side part.by sums (parts_of rows part.lit.term)
    ++ (record { op = Times; x = part.by; y = part.lit.bound }) ∷ (record { op = sum_op part.lit.side; x = constant; y = part.by *ℤ part.lit.bound })
    ∷ leaf_steps_from rows (λ var. sums var +ℤ weight rows var part) (constant +ℤ bound_weight part) parts

-- every product and sum that working a combination from left to right forms, in order; all sums begin at 0
abbrev pub leaf_steps : List (List Part) → List FarkasPart → List Excess
leaf_steps rows parts = leaf_steps_from rows (λ _. pos 0) (pos 0) parts
