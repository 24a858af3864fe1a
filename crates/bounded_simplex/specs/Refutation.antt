-- How an equation refutes bounds.
use Rattle.std.specs.Prelude.{◌≡◌, ℕ, ◌+◌, Bool, not, cond, ℤ, pos, int_lt, List, ◌++◌, length, Option, Some}
use Rattle.mix_system.specs.declared.literal.Side.{Side}
use Rattle.mix_system.specs.declared.literal.Side.TheVariants.{Le, Ge}
use Rattle.mix_system.specs.System.{System}
use Rattle.mix_system.specs.declared.literal.Lit.{Lit}
use Rattle.mix_system.specs.declared.farkas.FarkasPart.{FarkasPart}
use Rattle.mix_system.specs.Bounds.{range_bounds}
use Rattle.mix_system.specs.FarkasSum.{by_side}
use Rattle.tableau_rows.specs.declared.entry.Entry.{Entry}
use Rattle.tableau_rows.specs.Turning.{turned_number}
use Rattle.bounded_simplex.specs.InForce.{BoundChanges, in_force}
use Rattle.bounded_simplex.specs.Terms.{term_of}

-- all bounds: those of the ranges, and the changes
abbrev pub box_of : BoundChanges → List Lit
box_of bounds = range_bounds bounds.system.ranges ++ bounds.changes

-- the literal says the bound in force on its side
abbrev pub SaysInForce : BoundChanges → Lit → Type 0
SaysInForce bounds lit = in_force bounds lit.term lit.side ≡ Some lit.bound

-- how many columns there are: the variables, and then the rows
abbrev pub columns_of : System → ℕ
columns_of system = length system.ranges + length system.rows

-- the bound in force on a side of a column's term
abbrev pub bound_on : BoundChanges → ℕ → Side → Option ℤ
bound_on bounds column side = in_force bounds (term_of (length bounds.system.ranges) column) side

-- the side of the bound that hinders a column taken so often from moving the sum upwards, or downwards
abbrev pub hindering : (upwards : Bool) → ℤ → Side
hindering upwards coeff = cond (int_lt (pos 0) coeff) (cond upwards Le Ge) (cond upwards Ge Le)

-- the column's number is the bound that hinders it
abbrev pub IsHindered : BoundChanges → (upwards : Bool) → (ℕ → ℤ) → Entry → Type 0
IsHindered bounds upwards number entry =
    bound_on bounds entry.column (hindering upwards entry.coeff) ≡ Some (number entry.column)

-- the part counts the entry's column as often as the entry takes it, or as often with the other sign, by the bound in force
pub record IsPartOf (bounds : BoundChanges) (upwards : Bool) (entry : Entry) (part : FarkasPart) : Type 0 where
  pub term : part.lit.term ≡ term_of (length bounds.system.ranges) entry.column
  pub counted : by_side part.lit.side part.by ≡ turned_number (not upwards) entry.coeff
  pub side : part.lit.side ≡ hindering upwards entry.coeff
  pub says : SaysInForce bounds part.lit
