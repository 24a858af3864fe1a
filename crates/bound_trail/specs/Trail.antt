-- A trail: literals that were put one after another onto the ranges of variables, in levels.
use Rattle.std.specs.Prelude.{ℕ, ◌^◌, ◌<◌, ◌≤◌, ℤ, List, ◌++◌, length, take, slice_index_or, All, AllPairs, HoldsAt}
use Rattle.mix_system.specs.declared.literal.Lit.{Lit}
use Rattle.mix_system.specs.Lit.{negation}
use Rattle.mix_system.specs.System.{IsInner, IsRange, Exists}
use Rattle.mix_system.specs.Bounds.{Entails, IsIn, IsFalseIn, range_bounds}

-- the ranges of the variables, the number of rows, the literals in order, and the places at which the levels 1, 2, .. begin
pub record Trail : Type 0 where
  pub ranges : List (ℤ × ℤ)
  pub rows : ℕ
  pub lits : List Lit
  pub levels : List ℕ

-- the bounds in force: the ranges, with the first so many literals or with all of them
abbrev pub box_with : Trail → ℕ → List Lit
box_with trail count = range_bounds trail.ranges ++ take count trail.lits

abbrev pub box : Trail → List Lit
box trail = range_bounds trail.ranges ++ trail.lits

-- the place at which a level ends: that of the next level, and of the last level the trail's end
abbrev pub level_end : Trail → ℕ → ℕ
level_end trail level = slice_index_or trail.levels level (length trail.lits)

-- the bounds in force at the end of a level
abbrev pub box_at : Trail → ℕ → List Lit
box_at trail level = box_with trail (level_end trail level)

-- neither true nor false by the bounds in force
pub record IsOpen (bounds : List Lit) (lit : Lit) : Type 0 where
  pub not_true : ¬ IsIn bounds lit
  pub not_false : ¬ IsFalseIn bounds lit

-- the least level at whose end the literal is false
pub record BecameFalse (trail : Trail) (lit : Lit) (level : ℕ) : Type 0 where
  pub present : level ≤ length trail.levels
  pub there : IsFalseIn (box_at trail level) lit
  pub before : (earlier : ℕ) → earlier < level → ¬ IsFalseIn (box_at trail earlier) lit

-- the literal at a place makes another one false, and no literal before it and no range does
pub record IsCause (trail : Trail) (lit : Lit) (at : ℕ) : Type 0 where
  pub within : at < length trail.lits
  pub falsifies : HoldsAt (λ put. Entails put (negation lit)) trail.lits at
  pub first : ¬ IsFalseIn (box_with trail at) lit

-- the literal was open where it was put
abbrev pub WasOpen : Trail → ℕ → Type 0
WasOpen trail at = HoldsAt (IsOpen (box_with trail at)) trail.lits at

-- what holds of each trail
pub record IsTrail (trail : Trail) : Type 0 where
  pub ranges : All IsRange trail.ranges
  pub few_vars : length trail.ranges < 2 ^ 31
  pub few_rows : trail.rows < 2 ^ 31
  pub few_lits : length trail.lits < 2 ^ 32
  pub terms : All (λ lit. Exists (length trail.ranges) trail.rows lit.term) trail.lits
  pub inner : All (λ lit. IsInner lit.bound) trail.lits
  pub opened : (at : ℕ) → at < length trail.lits → WasOpen trail at
  pub rising : AllPairs (λ place later. place ≤ later) trail.levels
  pub places : All (λ place. place ≤ length trail.lits) trail.levels
