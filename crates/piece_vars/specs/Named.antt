-- What a piece lays names only some variables.
use Rattle.std.specs.Prelude.{◌≡◌, ℕ, ◌+◌, ◌<◌, ◌≤◌, Bool, true}
use Rattle.std.specs.List.{AllByRecursion}
use Rattle.mix_system.specs.declared.literal.Term.{Term}
use Rattle.mix_system.specs.declared.literal.Term.TheVariants.{Var, Row}
use Rattle.mix_system.specs.declared.literal.Lit.{Lit}
use Rattle.mix_system.specs.declared.row.Part.{Part}
use Rattle.wrap_rows.specs.Layout.{Layout}

abbrev pub IsPartIn : (ℕ → Type 0) → Part → Type 0
IsPartIn Is part = Is part.var

-- a term that names a variable names one of these
abbrev pub IsTermIn : (ℕ → Type 0) → Term → Type 0
IsTermIn Is (Var var) = Is var
IsTermIn Is (Row row) = Unit {0}

abbrev pub IsLitIn : (ℕ → Type 0) → Lit → Type 0
IsLitIn Is lit = IsTermIn Is lit.term

-- rows and clauses name only such variables
pub record NamesOnly (Is : ℕ → Type 0) (layout : Layout) : Type 0 where
  pub rows : AllByRecursion (AllByRecursion (IsPartIn Is)) layout.rows
  pub clauses : AllByRecursion (AllByRecursion (IsLitIn Is)) layout.clauses

-- so many variables from one on are such
abbrev pub Own : (ℕ → Type 0) → (first count : ℕ) → Type 0
Own Is first count = (var : ℕ) → first ≤ var → var < first + count → Is var

-- the variables that pass a test
abbrev pub Passing : (ℕ → Bool) → ℕ → Type 0
Passing test var = test var ≡ true
