-- A whole point inside all bounds.
use Rattle.std.specs.Prelude.{◌≡◌, ℕ, ◌<◌, ℤ, pos, ◌*ℤ◌, List, length}
use Rattle.mix_system.specs.declared.literal.Term.{Term}
use Rattle.mix_system.specs.declared.literal.Side.{Side}
use Rattle.mix_system.specs.Fits.{term_value}
use Rattle.mix_system.specs.Row.{number_at}
use Rattle.mix_system.specs.System.{Exists}
use Rattle.tableau_rows.specs.declared.equation.Equation.{Equation}
use Rattle.bounded_simplex.specs.InForce.{BoundChanges, in_force}
use Rattle.bounded_simplex.specs.Point.{Admits, IsKeptPoint}

-- one number for each variable, and each term's value keeps its bounds in force
pub record IsWholePoint (bounds : BoundChanges) (point : List ℤ) : Type 0 where
  pub one_each : length point ≡ length bounds.system.ranges
  pub inside : (term : Term) (side : Side) → Exists (length bounds.system.ranges) (length bounds.system.rows) term
      → Admits side (in_force bounds term side) (pos 1) (term_value bounds.system.rows point term)

-- the kept point has that number for a variable
abbrev pub IsValueOf : BoundChanges → List Equation → List ℤ → (var : ℕ) → ℤ → Type 0
IsValueOf bounds rows values var value =
    (denominator : ℤ) (number : ℕ → ℤ) → IsKeptPoint bounds.system rows values denominator number → number var ≡ denominator *ℤ value

-- the numbers of the kept point for the first variables
abbrev pub AreValuesOf : BoundChanges → List Equation → List ℤ → List ℤ → Type 0
AreValuesOf bounds rows values point = (var : ℕ) → var < length point → IsValueOf bounds rows values var (number_at point var)
