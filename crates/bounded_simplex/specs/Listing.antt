-- What is listed of a tableau: its basis, and the values of the columns outside it.
use Rattle.std.specs.Prelude.{◌≡◌, ℕ, ◌==◌, ◌<◌, Bool, false, not, ℤ, List, length, map, filter, slice_index_or, Option, None, Some}
use Rattle.std.specs.List.{list_any, range_with_len}
use Rattle.mix_system.specs.declared.literal.Term.{Term}
use Rattle.mix_system.specs.Row.{number_at}
use Rattle.mix_system.specs.System.{System}
use Rattle.tableau_rows.specs.declared.equation.Equation.{Equation}
use Rattle.bounded_simplex.specs.Refutation.{columns_of}
use Rattle.bounded_simplex.specs.Terms.{term_of}

-- the column is an equation's basic one
abbrev pub is_basic : List Equation → ℕ → Bool
is_basic rows column = list_any (λ equation. equation.basic == column) rows

-- the terms of the basic columns
abbrev pub basis_of : (vars : ℕ) → List Equation → List Term
basis_of vars rows = map (λ equation. term_of vars equation.basic) rows

-- the columns outside the basis, in their order
abbrev pub outside_of : List Equation → (columns : ℕ) → List ℕ
outside_of rows columns = filter (λ column. not (is_basic rows column)) (range_with_len 0 columns)

-- their values
abbrev pub rest_of : List Equation → List ℤ → List ℤ
rest_of rows values = map (number_at values) (outside_of rows (length values))

-- the basis, in any order, and the values of all other terms, in the order of terms
pub record IsListed (system : System) (rows : List Equation) (values : List ℤ) (basis : List Term) (rest : List ℤ) : Type 0 where
  pub one_each : length values ≡ columns_of system
  pub in_basis : basis ≡ basis_of (length system.ranges) rows
  pub outside : rest ≡ rest_of rows values

-- None where the column isn't basic, else the place of its equation
abbrev pub IsPlaceOf : List Equation → ℕ → Option ℕ → Type 0
IsPlaceOf rows column place =
    (place ≡ None → is_basic rows column ≡ false)
    × ((at : ℕ) → place ≡ Some at → (at < length rows) × ((d : Equation) → (slice_index_or rows at d).basic ≡ column))

-- the place for each column
abbrev pub ArePlaced : List Equation → List (Option ℕ) → Type 0
ArePlaced rows places = (column : ℕ) (o : Option ℕ) → column < length places → IsPlaceOf rows column (slice_index_or places column o)
