-- A bound that the value of a basic column breaks.
use Rattle.std.specs.Prelude.{◌≡◌, ◌<◌, ℤ, Bool, cond, List, length, slice_index_or, Option, Some}
use Rattle.wx_num.specs.declared.excess.NumOp.TheVariants.{Times}
use Rattle.wx_num.specs.declared.excess.Excess.{Excess}
use Rattle.mix_system.specs.declared.literal.Side.{Side}
use Rattle.mix_system.specs.declared.literal.Side.TheVariants.{Le, Ge}
use Rattle.tableau_rows.specs.declared.equation.Equation.{Equation}
use Rattle.bounded_simplex.specs.InForce.{BoundChanges}
use Rattle.bounded_simplex.specs.Point.{Keeps}
use Rattle.bounded_simplex.specs.Lax.{IsLax}
use Rattle.bounded_simplex.specs.declared.broken.Broken.{Broken}

pub record IsBroken (bounds : BoundChanges) (rows : List Equation) (values : List ℤ) (broken : Broken) : Type 0 where
  pub within : broken.at < length rows
  pub basic : (d : Equation) → broken.basic ≡ (slice_index_or rows broken.at d).basic
  pub breaks : (d : Equation) → ¬ Keeps bounds values (slice_index_or rows broken.at d) broken.side
  pub tight : (d : Equation) → ¬ IsLax bounds (slice_index_or rows broken.at d).basic broken.side

-- the one of two bounds that stands on a side
abbrev pub bound_of : Option ℤ → Option ℤ → Side → Option ℤ
bound_of low high Ge = low
bound_of low high Le = high

-- the denominator times the bound
abbrev pub IsProduct : Option ℤ → ℤ → Excess → Type 0
IsProduct bound denominator excess =
    (bound ≡ Some excess.y) × (excess ≡ record { op = Times; x = denominator; y = excess.y })

-- the side of a broken bound from which the basic column is to be moved
abbrev pub side_of : (upwards : Bool) → Side
side_of upwards = cond upwards Ge Le
