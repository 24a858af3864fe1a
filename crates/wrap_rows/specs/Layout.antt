-- What a piece lays into a system, and what that says at a point.
use Rattle.std.specs.Prelude.{◌≡◌, ℕ, zero, suc, ◌+◌, ◌<◌, ℤ, List, [], map, length, slice_index_or, All, Any}
use Rattle.mix_system.specs.declared.literal.Term.{Term}
use Rattle.mix_system.specs.declared.literal.Term.TheVariants.{Var, Row}
use Rattle.mix_system.specs.declared.literal.Side.TheVariants.{Le, Ge}
use Rattle.mix_system.specs.declared.literal.Lit.{Lit}
use Rattle.mix_system.specs.declared.row.Part.{Part}
use Rattle.mix_system.specs.Fits.{IsTrueAt}
use Rattle.wrap_rows.specs.Normal.{row_of, clause_of}

-- ---- parts and literals

abbrev pub times : ℤ → ℕ → Part
times coeff var = record { coeff = coeff; var = var }

abbrev pub at_most : Term → ℤ → Lit
at_most term bound = record { term = term; side = Le; bound = bound }

abbrev pub at_least : Term → ℤ → Lit
at_least term bound = record { term = term; side = Ge; bound = bound }

-- ---- what a piece lays

-- Its rows and its clauses, in order, as written. The clauses count the piece's rows from 0.
pub record Layout : Type 0 where
  pub rows : List (List Part)
  pub clauses : List (List Lit)

-- a literal of a piece in the system where the piece's first row has this number
abbrev pub raised_term : ℕ → Term → Term
raised_term first (Var var) = Var var
raised_term first (Row zero) = Row first
raised_term first (Row (suc row)) = Row (first + suc row)

abbrev pub raised : ℕ → Lit → Lit
raised first lit = record { term = raised_term first lit.term; side = lit.side; bound = lit.bound }

abbrev pub clause_from : ℕ → List Lit → List Lit
clause_from first lits = clause_of (map (raised first) lits)

-- a term that names a row names one of the first so many
abbrev pub IsOfRows : ℕ → Term → Type 0
IsOfRows rows (Var var) = Unit {0}
IsOfRows rows (Row row) = row < rows

-- the layout's rows stand in a system's rows, from this number on
abbrev pub StandsAt : ℕ → List (List Part) → List (List Part) → Type 0
StandsAt first mine rows = (row : ℕ) → row < length mine → slice_index_or rows (first + row) [] ≡ row_of (slice_index_or mine row [])

-- ---- what it says at a point

-- each clause has a literal that is true, over the layout's own rows
abbrev pub Holds : Layout → List ℤ → Type 0
Holds layout point = All (Any (IsTrueAt layout.rows point)) layout.clauses
