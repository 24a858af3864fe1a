-- Columns as terms, and what a term takes of a variable.
use Rattle.std.specs.Prelude.{ℕ, ◌-◌, nat_lt, cond, ℤ, length}
use Rattle.mix_system.specs.declared.literal.Term.{Term}
use Rattle.mix_system.specs.declared.literal.Term.TheVariants.{Var, Row}
use Rattle.mix_system.specs.Sum.{int_sum_by}
use Rattle.mix_system.specs.System.{System}
use Rattle.mix_system.specs.FarkasSum.{parts_of, coeff_on}

-- the term of a column
abbrev pub term_of : (vars : ℕ) → ℕ → Term
term_of vars column = cond (nat_lt column vars) (Var column) (Row (column - vars))

-- how often a term takes a variable, where a row is replaced by its parts
abbrev pub times_in : System → (var : ℕ) → Term → ℤ
times_in system var term = int_sum_by (coeff_on var) (parts_of system.rows term)

-- the same by columns
abbrev pub times_in_column : System → (var : ℕ) → ℕ → ℤ
times_in_column system var column = times_in system var (term_of (length system.ranges) column)
