-- What kept bounds say, on each level and on one, and how later bounds go back to earlier ones.
use Rattle.std.specs.Prelude.{◌≡◌, ◌↔◌, ◌⊎◌, ℕ, ◌+◌, ◌*◌, ◌<◌, ◌≤◌, ℤ, pos, List, [], ◌∷◌, ◌++◌, length, slice_index_or, slice_set}
use Rattle.mix_system.specs.declared.literal.Term.{Term}
use Rattle.mix_system.specs.declared.literal.Term.TheVariants.{Var, Row}
use Rattle.mix_system.specs.declared.literal.Side.{Side}
use Rattle.mix_system.specs.declared.literal.Side.TheVariants.{Le, Ge}
use Rattle.mix_system.specs.declared.literal.Lit.{Lit}
use Rattle.mix_system.specs.Lit.{IsWithin}
use Rattle.mix_system.specs.Bounds.{Entails, IsIn}
use Rattle.box_check.specs.declared.bounds.Bounds.{Bounds}
use Rattle.box_check.specs.declared.bounds.Change.{Change}
use Rattle.box_check.specs.declared.bounds.End.{End}

-- the variables first, then the rows
abbrev pub index_of : ℕ → Term → ℕ
index_of vars (Var var) = var
index_of vars (Row row) = vars + row

abbrev pub side_bit : Side → ℕ
side_bit Le = 0
side_bit Ge = 1

-- where the bounds of a term from a side are kept: that of all levels, and 1 behind it that of one
abbrev pub slot_of : ℕ → Term → Side → ℕ → ℕ
slot_of vars term side behind = 4 * index_of vars term + 2 * side_bit side + behind

-- no bound: no level has the number 0
abbrev pub no_end : End
no_end = record { level = 0; bound = pos 0 }

-- a bound that is kept is of that level, and says at least what a literal's bound says
abbrev pub SaysEnd : Side → ℤ → ℕ → End → Type 0
SaysEnd side bound level end = (end.level ≡ level) × IsWithin side bound end.bound

-- the bounds of all levels say a literal
abbrev pub SaysEverywhere : Bounds → Lit → Type 0
SaysEverywhere bounds lit = SaysEnd lit.side lit.bound 1 (slice_index_or bounds.ends.items (slot_of bounds.vars lit.term lit.side 0) no_end)

-- the bounds of the level in work say a literal
abbrev pub SaysHere : Bounds → Lit → Type 0
SaysHere bounds lit = SaysEnd lit.side lit.bound bounds.level (slice_index_or bounds.ends.items (slot_of bounds.vars lit.term lit.side 1) no_end)

-- the bounds in force say a literal
abbrev pub Says : Bounds → Lit → Type 0
Says bounds lit = SaysEverywhere bounds lit ⊎ SaysHere bounds lit

-- the bounds are those of so many variables and rows
pub record IsOver (vars rows : ℕ) (bounds : Bounds) : Type 0 where
  pub vars_are : bounds.vars ≡ vars
  pub slots : length bounds.ends.items ≡ 4 * (vars + rows)

-- no bound is kept of a level within the one in work
pub record AreUpTo (bounds : Bounds) : Type 0 where
  pub counted : 1 ≤ bounds.level
  pub up_to : (k : ℕ) → (slice_index_or bounds.ends.items k no_end).level ≤ bounds.level

-- there are places for bounds of that term
abbrev pub HasSlot : Bounds → Term → Type 0
HasSlot bounds (Var var) = (var < bounds.vars) × (4 * var + 3 < length bounds.ends.items)
HasSlot bounds (Row row) = 4 * (bounds.vars + row) + 3 < length bounds.ends.items

-- the bounds before some changes, of which the latest is the last
abbrev pub restored : List Change → List End → List End
restored [] ends = ends
restored (change ∷ changes) ends = slice_set (restored changes ends) change.slot change.before

-- Some bounds were tightened since: taking the later changes back gives the earlier bounds.
pub record Extends (old new : Bounds) : Type 0 where
  pub more : List Change
  pub changes : new.changes.items ≡ old.changes.items ++ more
  pub ends : restored more new.ends.items ≡ old.ends.items
  pub vars : new.vars ≡ old.vars
  pub level : new.level ≡ old.level

-- both keep the same bounds, with the same changes before
pub record IsSame (old new : Bounds) : Type 0 where
  pub changes : new.changes.items ≡ old.changes.items
  pub ends : new.ends.items ≡ old.ends.items
  pub vars : new.vars ≡ old.vars
  pub level : new.level ≡ old.level

-- the same bounds on a level within: in force are those of all levels alone
abbrev pub opened : Bounds → Bounds
opened bounds = record bounds { level = bounds.level + 1 }

-- a literal was put in force: the later bounds say what it says, and what the earlier ones say
abbrev pub Tightens : Lit → Bounds → Bounds → Type 0
Tightens lit old new = (other : Lit) → HasSlot old other.term → Says new other ↔ (Entails lit other ⊎ Says old other)

-- the same of the bounds of all levels
abbrev pub TightensEverywhere : Lit → Bounds → Bounds → Type 0
TightensEverywhere lit old new = (other : Lit) → HasSlot old other.term → SaysEverywhere new other ↔ (Entails lit other ⊎ SaysEverywhere old other)

-- the bounds of all levels are as before, and no bound of a level within came
pub record StaysHere (old new : Bounds) : Type 0 where
  pub everywhere : (other : Lit) → HasSlot old other.term → SaysEverywhere new other ↔ SaysEverywhere old other
  pub up_to : AreUpTo old → AreUpTo new

-- the bounds say exactly what a box says
abbrev pub Stands : Bounds → List Lit → Type 0
Stands bounds box = (lit : Lit) → HasSlot bounds lit.term → Says bounds lit ↔ IsIn box lit

-- the bounds of all levels say exactly what a box says
abbrev pub StandsEverywhere : Bounds → List Lit → Type 0
StandsEverywhere bounds box = (lit : Lit) → HasSlot bounds lit.term → SaysEverywhere bounds lit ↔ IsIn box lit
