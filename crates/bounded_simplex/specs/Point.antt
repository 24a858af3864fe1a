-- The point that a tableau and the values of the columns outside its basis give, and when it lies inside the bounds.
use Rattle.std.specs.Prelude.{◌≡◌, ◌≢◌, ℕ, ◌<◌, ℤ, pos, ◌*ℤ◌, ◌≤ℤ◌, List, length, slice_index_or, Option, None, Some, All}
use Rattle.mix_system.specs.declared.literal.Side.{Side}
use Rattle.mix_system.specs.declared.literal.Side.TheVariants.{Le, Ge}
use Rattle.mix_system.specs.Lit.{IsWithin}
use Rattle.mix_system.specs.Row.{number_at}
use Rattle.mix_system.specs.System.{System}
use Rattle.tableau_rows.specs.declared.equation.Equation.{Equation}
use Rattle.tableau_rows.specs.Equation.{total}
use Rattle.tableau_rows.specs.Turning.{others}
use Rattle.bounded_simplex.specs.InForce.{BoundChanges, Contradict}
use Rattle.bounded_simplex.specs.Refutation.{columns_of, bound_on}
use Rattle.bounded_simplex.specs.TableauOf.{Solves}

-- the numerator over the denominator keeps the bound, where there is one
abbrev pub Admits : Side → Option ℤ → ℤ → ℤ → Type 0
Admits side None denominator numerator = Unit {0}
Admits side (Some bound) denominator numerator = IsWithin side (denominator *ℤ bound) numerator

-- the value of each column keeps its bounds in force
abbrev pub AreInBounds : BoundChanges → List ℤ → Type 0
AreInBounds bounds values =
    (column : ℕ) (side : Side) → column < length values
    → Admits side (bound_on bounds column side) (pos 1) (number_at values column)

-- no column has a lower bound in force above its upper one
abbrev pub NoneContradict : BoundChanges → Type 0
NoneContradict bounds = (column : ℕ) → column < columns_of bounds.system → ¬ Contradict (bound_on bounds column Ge) (bound_on bounds column Le)

-- the numerator of an equation's basic column, where each other one has a value
abbrev pub numerator_of : List ℤ → Equation → ℤ
numerator_of values equation = total (number_at values) (others equation.basic equation.entries.items)

-- the basic column's value keeps its bound in force on a side
abbrev pub Keeps : BoundChanges → List ℤ → Equation → Side → Type 0
Keeps bounds values equation side =
    Admits side (bound_on bounds equation.basic side) equation.denominator (numerator_of values equation)

-- the column is outside the basis
abbrev pub IsOutside : List Equation → ℕ → Type 0
IsOutside rows column = All (λ equation. equation.basic ≢ column) rows

-- numbers for all columns over one denominator, which solve the system, and outside the basis are the values
pub record IsKeptPoint (system : System) (rows : List Equation) (values : List ℤ) (denominator : ℤ) (number : ℕ → ℤ) : Type 0 where
  pub positive : pos 1 ≤ℤ denominator
  pub solves : Solves system number
  pub rest : (column : ℕ) → IsOutside rows column → number column ≡ denominator *ℤ number_at values column

-- the kept point lies inside all bounds in force
pub record IsPoint (bounds : BoundChanges) (rows : List Equation) (values : List ℤ) : Type 0 where
  pub denominator : ℤ
  pub number : ℕ → ℤ
  pub kept : IsKeptPoint bounds.system rows values denominator number
  pub inside : (column : ℕ) (side : Side) → column < columns_of bounds.system
      → Admits side (bound_on bounds column side) denominator (number column)

-- a basic column lies outside a bound in force, at each way to write the kept point
pub record IsBeyond (bounds : BoundChanges) (rows : List Equation) (values : List ℤ) : Type 0 where
  pub at : ℕ
  pub within : at < length rows
  pub side : Side
  pub outside : (d : Equation) (denominator : ℤ) (number : ℕ → ℤ) → IsKeptPoint bounds.system rows values denominator number
      → ¬ Admits side (bound_on bounds (slice_index_or rows at d).basic side) denominator (number (slice_index_or rows at d).basic)
