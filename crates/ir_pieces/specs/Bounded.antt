-- What a piece lays names only variables before its end, and is little.
use Rattle.std.specs.Prelude.{ℕ, ◌+◌, ◌*◌, ◌<◌, ◌≤◌, ℤ, List, length}
use Rattle.std.specs.List.{AllByRecursion}
use Rattle.mix_system.specs.declared.literal.Term.{Term}
use Rattle.mix_system.specs.declared.literal.Term.TheVariants.{Var, Row}
use Rattle.mix_system.specs.declared.literal.Lit.{Lit}
use Rattle.mix_system.specs.declared.row.Part.{Part}
use Rattle.wrap_rows.specs.Layout.{Layout}
use Rattle.ir_pieces.specs.declared.piece.IrPiece.{IrPiece}
use Rattle.ir_pieces.specs.declared.piece.IrPiece.TheVariants as kind

abbrev pub IsPartOf : ℕ → Part → Type 0
IsPartOf vars part = part.var < vars

-- a term that names a variable names one of the first so many
abbrev pub IsOfVars : ℕ → Term → Type 0
IsOfVars vars (Var var) = var < vars
IsOfVars vars (Row row) = Unit {0}

abbrev pub IsLitOf : ℕ → Lit → Type 0
IsLitOf vars lit = IsOfVars vars lit.term

-- rows and clauses name only the first so many variables
pub record NamesBefore (vars : ℕ) (layout : Layout) : Type 0 where
  pub rows : AllByRecursion (AllByRecursion (IsPartOf vars)) layout.rows
  pub clauses : AllByRecursion (AllByRecursion (IsLitOf vars)) layout.clauses

-- how many edges a piece goes over: of a phi those into its block
abbrev pub edges_of : IrPiece → ℕ
edges_of (kind.Phi piece) = length piece.incoming.items
edges_of _ = 0

-- What a piece lays that begins at a variable and goes over so many edges:
-- it names only variables before its end, and is bounded. A phi has a row and four clauses for each edge.
pub record IsBounded (first edges : ℕ) (ranges : List (ℤ × ℤ)) (layout : Layout) : Type 0 where
  pub named : NamesBefore (first + length ranges) layout
  pub vars : length ranges ≤ 98
  pub rows : length layout.rows ≤ 5 + edges
  pub clauses : length layout.clauses ≤ 138 + 4 * edges
