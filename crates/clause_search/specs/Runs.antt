-- How hints are run from the marks beside a trail.
use Rattle.std.specs.Prelude.{◌≡◌, ◌⊎◌, ℕ, ◌<◌, ◌≤◌, List, [], ◌∷◌, ◌++◌, length, map, slice_get, Some, All, AllPairs, Contains}
use Rattle.mix_system.specs.declared.literal.Lit.{Lit}
use Rattle.mix_system.specs.Lit.{negation}
use Rattle.mix_system.specs.Bounds.{Entails, IsIn, IsFalseIn, range_bounds, unit_bounds}
use Rattle.mix_system.specs.Follows.{Known, LeavesOne}
use Rattle.bound_trail.specs.Trail.{Trail, box, box_with, level_end}
use Rattle.clause_search.specs.Search.{Search, known, single_bounds}
use Rattle.clause_search.specs.declared.marks.Mark.{Mark}
use Rattle.clause_search.specs.Marks.{lit_at, IsSeen, IsMarked, AreCovered}

-- each hint names a known clause that leaves one literal, which is put to the box
abbrev pub Runs : Known → List Lit → List ℕ → List Lit → Type 0
Runs known first [] last = first ≡ last
Runs known first (hint ∷ hints) last =
    (clause : List Lit) × (lit : Lit) × (known hint ≡ Some clause) × LeavesOne first clause lit × Runs known (lit ∷ first) hints last

-- hints that stop before a place of the trail and end with a clause: no literal before the place is false by a single clause of the store,
-- and each literal of the clause is false before it, or is true and is false by a single clause
pub record IsAim (state : Search) (end last : ℕ) : Type 0 where
  pub within : end ≤ length state.trail.lits
  pub none_broken : (at : ℕ) → at < end → ¬ IsFalseIn (unit_bounds state.store) (lit_at state.trail at)
  pub clause : List Lit
  pub among : slice_get state.store last ≡ Some clause
  pub broken : All (λ lit. IsFalseIn (box_with state.trail end) lit ⊎ IsFalseIn (unit_bounds state.store) lit) clause

-- the marks cover the clause, and the negations of some literals are the literals of the trail that are seen
pub record IsReady (state : Search) (marks : List Mark) (lits : List Lit) (end last : ℕ) : Type 0 where
  pub covered : (clause : List Lit) → slice_get state.store last ≡ Some clause → AreCovered state.trail marks clause
  pub seen : (at : ℕ) → at < end → IsSeen marks at → IsIn (map negation lits) (lit_at state.trail at)
  pub only : (lit : Lit) → IsIn (map negation lits) lit → IsIn (box state.trail) lit

-- the hints of the marked places before one were run
pub record HasRun (state : Search) (marks : List Mark) (lits : List Lit) (end at : ℕ) (hints : List ℕ) : Type 0 where
  pub bounds : List Lit
  pub runs : Runs (known state) (map negation lits ++ single_bounds state) hints bounds
  pub ranges : (lit : Lit) → IsIn (range_bounds state.trail.ranges) lit → IsIn bounds lit
  pub singles : (lit : Lit) → IsIn (unit_bounds state.store) lit → IsIn bounds lit
  pub seen : (k : ℕ) → k < end → IsSeen marks k → IsIn bounds (lit_at state.trail k)
  pub marked : (k : ℕ) → k < at → k < end → IsMarked marks k → IsIn bounds (lit_at state.trail k)
  pub only : (lit : Lit) → IsIn bounds lit → IsIn (box state.trail) lit ⊎ IsIn (unit_bounds state.store) lit

-- the literal at a place of the trail was put on this level
pub record IsLevelOf (trail : Trail) (at level : ℕ) : Type 0 where
  pub present : level ≤ length trail.levels
  pub ends : at < level_end trail level
  pub begins : (earlier : ℕ) → earlier < level → level_end trail earlier ≤ at

-- the negations of the literals at the places before one that are seen
pub record AreKept (trail : Trail) (marks : List Mark) (at : ℕ) (lits : List Lit) : Type 0 where
  pub places : List ℕ
  pub lits_are : lits ≡ map (λ place. negation (lit_at trail place)) places
  pub rising : AllPairs (λ place later. place < later) places
  pub seen : All (λ place. IsSeen marks place × (place < at)) places
  pub all : (place : ℕ) → place < at → IsSeen marks place → Contains places place

-- the level of the last place before a start that is seen, or 0 where none is
pub record IsLastSeen (marks : List Mark) (start place : ℕ) : Type 0 where
  pub below : place < start
  pub seen : IsSeen marks place
  pub last : (at : ℕ) → at < start → IsSeen marks at → at ≤ place

abbrev pub IsBackLevel : Trail → List Mark → ℕ → ℕ → Type 0
IsBackLevel trail marks start level =
    (((at : ℕ) → at < start → ¬ IsSeen marks at) × (level ≡ 0)) ⊎ ((place : ℕ) × IsLastSeen marks start place × IsLevelOf trail place level)

-- an aim, where the first so many clauses were looked at
pub record IsAimSoFar (state : Search) (count end last : ℕ) : Type 0 where
  pub within : end ≤ length state.trail.lits
  pub none_broken : (number : ℕ) → number < count → (only : Lit) → slice_get state.store number ≡ Some (only ∷ []) → (at : ℕ) → at < end → ¬ Entails only (negation (lit_at state.trail at))
  pub clause : List Lit
  pub among : slice_get state.store last ≡ Some clause
  pub broken : All (λ lit. IsFalseIn (box_with state.trail end) lit ⊎ IsFalseIn (unit_bounds state.store) lit) clause
