-- A system as its lists, and what each list keeps.
use Rattle.std.specs.Prelude.{◌≢◌, ℕ, ◌-◌, ◌^◌, ◌<◌, ℤ, pos, neg_ℤ, ◌≤ℤ◌, ◌<ℤ◌, List, length, All, AllPairs}
use Rattle.mix_system.specs.declared.literal.Term.{Term}
use Rattle.mix_system.specs.declared.literal.Term.TheVariants.{Var, Row}
use Rattle.mix_system.specs.declared.literal.Lit.{Lit}
use Rattle.mix_system.specs.declared.row.Part.{Part}

-- the range of each variable, from the least number to the greatest; the parts of each row; the literals of each clause
pub record System : Type 0 where
  pub ranges : List (ℤ × ℤ)
  pub rows : List (List Part)
  pub clauses : List (List Lit)

-- neither the least nor the greatest i128, so that one more and one less are numbers of that type too
pub record IsInner (number : ℤ) : Type 0 where
  pub above_least : neg_ℤ (pos (2 ^ 127)) <ℤ number
  pub below_greatest : number <ℤ pos (2 ^ 127 - 1)

-- a range that has a number
pub record IsRange (range : ℤ × ℤ) : Type 0 where
  pub ordered : range.0 ≤ℤ range.1
  pub low : IsInner range.0
  pub high : IsInner range.1

-- a row over so many variables: they rise strictly, and no coefficient is 0
pub record IsRow (vars : ℕ) (parts : List Part) : Type 0 where
  pub known : All (λ part. part.var < vars) parts
  pub rising : AllPairs (λ part later. part.var < later.var) parts
  pub nonzero : All (λ part. part.coeff ≢ pos 0) parts

-- there is such a variable or row
abbrev pub Exists : ℕ → ℕ → Term → Type 0
Exists vars rows (Var var) = var < vars
Exists vars rows (Row row) = row < rows

-- a clause over so many variables and rows, in which no literal stands twice
pub record IsClause (vars rows : ℕ) (lits : List Lit) : Type 0 where
  pub known : All (λ lit. Exists vars rows lit.term) lits
  pub distinct : AllPairs (λ lit later. lit ≢ later) lits
  pub inner : All (λ lit. IsInner lit.bound) lits

-- what holds of each system
pub record IsWellFormed (system : System) : Type 0 where
  pub ranges : All IsRange system.ranges
  pub rows : All (IsRow (length system.ranges)) system.rows
  pub clauses : All (IsClause (length system.ranges) (length system.rows)) system.clauses
  pub few_vars : length system.ranges < 2 ^ 31
  pub few_rows : length system.rows < 2 ^ 31
  pub few_clauses : length system.clauses < 2 ^ 31
