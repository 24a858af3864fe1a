-- How a clause stands to the bounds in force.
use Rattle.std.specs.Prelude.{◌⊎◌, ℕ, ◌<◌, List, length, Any}
use Rattle.std.specs.List.{HoldsAt}
use Rattle.mix_system.specs.declared.literal.Lit.{Lit}
use Rattle.mix_system.specs.Bounds.{IsIn, IsFalseIn}
use Rattle.mix_system.specs.Follows.{LeavesOne}

-- the clause has a literal at this place, and that one isn't false
pub record IsLeftAt (bounds clause : List Lit) (at : ℕ) : Type 0 where
  pub within : at < length clause
  pub left : HoldsAt (λ lit. ¬ IsFalseIn bounds lit) clause at

-- two literals of the clause, counted as written, aren't false
pub record LeavesTwo (bounds clause : List Lit) : Type 0 where
  pub first : ℕ
  pub second : ℕ
  pub apart : first < second
  pub one : IsLeftAt bounds clause first
  pub other : IsLeftAt bounds clause second

-- some literal is true
abbrev pub HasTrue : List Lit → List Lit → Type 0
HasTrue bounds clause = Any (IsIn bounds) clause

-- a true literal, or two that aren't false: the clause asks for nothing
abbrev pub IsSettled : List Lit → List Lit → Type 0
IsSettled bounds clause = HasTrue bounds clause ⊎ LeavesTwo bounds clause

-- no literal is true, and just one isn't false: that one is implied
pub record IsUnit (bounds clause : List Lit) : Type 0 where
  pub lit : Lit
  pub one : LeavesOne bounds clause lit
  pub none_true : ¬ HasTrue bounds clause
