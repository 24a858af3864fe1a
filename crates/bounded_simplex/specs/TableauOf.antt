-- The tableau of a system: equations that have the same solutions as the system's rows, each solved for a basic column of its own.
use Rattle.std.specs.Prelude.{◌≡◌, ◌≢◌, ◌↔◌, ℕ, ◌+◌, ◌<◌, ◌≤◌, ℤ, pos, negsuc, ◌*ℤ◌, List, [], ◌∷◌, ◌++◌, length, map, slice_index_or, All}
use Rattle.mix_system.specs.declared.literal.Term.{Term}
use Rattle.mix_system.specs.declared.literal.Term.TheVariants.{Var, Row}
use Rattle.mix_system.specs.Sum.{int_sum_by}
use Rattle.mix_system.specs.System.{System}
use Rattle.tableau_rows.specs.declared.equation.Equation.{Equation}
use Rattle.tableau_rows.specs.Substitution.{taken, Satisfies}
use Rattle.tableau_rows.specs.Turning.{entry_of}

-- the column of a term: variables by number, then rows by number
abbrev pub column_of : (vars : ℕ) → Term → ℕ
column_of vars (Var var) = var
column_of vars (Row row) = vars + row

-- each row's column has the sum of its parts, where each column has a number
abbrev pub Solves : System → (ℕ → ℤ) → Type 0
Solves system number =
    (row : ℕ) → row < length system.rows
    → number (length system.ranges + row) ≡ int_sum_by (λ part. part.coeff *ℤ number part.var) (slice_index_or system.rows row [])

-- each equation holds where each column has a number
abbrev pub AllHold : List Equation → (ℕ → ℤ) → Type 0
AllHold rows number = All (Satisfies number) rows

-- no equation takes the basic column of another one
abbrev pub AreApart : List Equation → Type 0
AreApart rows =
    (i j : ℕ) (d : Equation) → i < length rows → j < length rows → i ≢ j → taken (slice_index_or rows i d) (slice_index_or rows j d).basic ≡ pos 0

-- no equation takes a column from that number on
abbrev pub AreWithin : ℕ → List Equation → Type 0
AreWithin columns rows =
    (k : ℕ) (d : Equation) (column : ℕ) → k < length rows → columns ≤ column → taken (slice_index_or rows k d) column ≡ pos 0

-- the equations have the same solutions as the system's rows: each solution of the one is one of the other
pub record TableauOf (system : System) (rows : List Equation) : Type 0 where
  pub apart : AreApart rows
  pub one_each : length rows ≡ length system.rows
  pub known : AreWithin (length system.ranges + length system.rows) rows
  pub same_solutions : (number : ℕ → ℤ) → Solves system number ↔ AllHold rows number

-- the equation of a row of the system: its parts less its own column
pub record IsOfRow (system : System) (row : ℕ) (equation : Equation) : Type 0 where
  pub basic : equation.basic ≡ length system.ranges + row
  pub entries : equation.entries.items ≡ map entry_of (slice_index_or system.rows row []) ++ (record { column = length system.ranges + row; coeff = negsuc 0 }) ∷ []
