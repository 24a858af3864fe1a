-- When a point fits a system. Values are whole numbers without a bound.
use Rattle.std.specs.Prelude.{◌≡◌, ℤ, pos, ◌≤ℤ◌, List, [], length, slice_index_or, All, Any, Contains, EachIndex}
use Rattle.wx_num.specs.declared.excess.Excess.{Excess}
use Rattle.wx_num.specs.Excess.{Overflows}
use Rattle.mix_system.specs.declared.literal.Term.{Term}
use Rattle.mix_system.specs.declared.literal.Term.TheVariants.{Var, Row}
use Rattle.mix_system.specs.declared.literal.Lit.{Lit}
use Rattle.mix_system.specs.declared.row.Part.{Part}
use Rattle.mix_system.specs.Lit.{IsWithin}
use Rattle.mix_system.specs.Row.{number_at, row_value, IsStepOf}
use Rattle.mix_system.specs.System.{System}

-- a variable's number, or a row's sum
abbrev pub term_value : List (List Part) → List ℤ → Term → ℤ
term_value rows point (Var var) = number_at point var
term_value rows point (Row row) = row_value (slice_index_or rows row []) point

-- a literal is true at a point
abbrev pub IsTrueAt : List (List Part) → List ℤ → Lit → Type 0
IsTrueAt rows point lit = IsWithin lit.side lit.bound (term_value rows point lit.term)

-- a number lies in a range
abbrev pub IsInRange : ℤ × ℤ → ℤ → Type 0
IsInRange range number = (range.0 ≤ℤ number) × (number ≤ℤ range.1)

-- each variable's number lies in its range
abbrev pub IsInRanges : List (ℤ × ℤ) → List ℤ → Type 0
IsInRanges ranges point = EachIndex ranges (λ var. IsInRange (slice_index_or ranges var (pos 0, pos 0)) (number_at point var))

-- the point has one number for each variable, each in its range, and each clause has a true literal
pub record Fits (system : System) (point : List ℤ) : Type 0 where
  pub one_each : length point ≡ length system.ranges
  pub in_ranges : IsInRanges system.ranges point
  pub clauses_hold : All (Any (IsTrueAt system.rows point)) system.clauses

-- a step of the sum of some row whose exact result lies outside i128
pub record IsRowExcess (system : System) (point : List ℤ) (excess : Excess) : Type 0 where
  pub row : List Part
  pub among : Contains system.rows row
  pub step : IsStepOf row point excess
  pub overflows : Overflows excess
