-- The marks beside a trail while a conflict is analysed.
use Rattle.std.specs.Prelude.{◌≡◌, ◌⊎◌, ℕ, ◌<◌, ◌≤◌, List, length, slice_get, slice_index_or, Some, All, Any}
use Rattle.std.specs.List.{HoldsAt}
use Rattle.mix_system.specs.declared.literal.Lit.{Lit}
use Rattle.mix_system.specs.Lit.{negation}
use Rattle.mix_system.specs.System.{IsInner}
use Rattle.mix_system.specs.Bounds.{IsFalseIn, range_bounds}
use Rattle.mix_system.specs.Follows.{LeavesOne}
use Rattle.bound_trail.specs.Edges.{blank_lit}
use Rattle.bound_trail.specs.Trail.{Trail, box, box_with, IsCause}
use Rattle.clause_search.specs.Search.{Search}
use Rattle.clause_search.specs.declared.marks.Mark.{Mark}
use Rattle.clause_search.specs.declared.marks.Mark.TheVariants.{Clear, Seen, Used}

abbrev pub lit_at : Trail → ℕ → Lit
lit_at trail at = slice_index_or trail.lits at blank_lit

abbrev pub mark_at : List Mark → ℕ → Mark
mark_at marks at = slice_index_or marks at Clear

abbrev pub IsSeen : List Mark → ℕ → Type 0
IsSeen marks at = mark_at marks at ≡ Seen

abbrev pub IsMarked : List Mark → ℕ → Type 0
IsMarked marks at = ¬ (mark_at marks at ≡ Clear)

-- the ranges alone make the literal false, or a marked literal of the trail is the first that does
abbrev pub IsCovered : Trail → List Mark → Lit → Type 0
IsCovered trail marks lit =
    IsFalseIn (range_bounds trail.ranges) lit ⊎ ((at : ℕ) × IsMarked marks at × IsCause trail lit at)

-- so are the literals of a clause that are false
abbrev pub AreCovered : Trail → List Mark → List Lit → Type 0
AreCovered trail marks clause = All (λ lit. IsFalseIn (box trail) lit → IsCovered trail marks lit) clause

-- the clause of that number implied the literal at a place, and its other literals are covered
pub record IsUsed (state : Search) (marks : List Mark) (number at : ℕ) : Type 0 where
  pub clause : List Lit
  pub among : slice_get state.store number ≡ Some clause
  pub implied : HoldsAt (LeavesOne (box_with state.trail at) clause) state.trail.lits at
  pub covered : AreCovered state.trail marks clause

pub record AreMarks (state : Search) (marks : List Mark) : Type 0 where
  pub one_each : length marks ≡ length state.trail.lits
  pub used : (at number : ℕ) → mark_at marks at ≡ Used number → IsUsed state marks number at
  pub inner : (at : ℕ) → IsMarked marks at → IsInner (negation (lit_at state.trail at)).bound

-- what was marked is marked
abbrev pub Keeps : List Mark → List Mark → Type 0
Keeps old new = (at : ℕ) → IsMarked old at → IsMarked new at

-- a clear place was seen, and there was cause to
pub record IsNewlySeen (Cause : ℕ → Type 0) (old new : List Mark) (at : ℕ) : Type 0 where
  pub was : mark_at old at ≡ Clear
  pub is : mark_at new at ≡ Seen
  pub cause : Cause at

-- some clear places were seen, and there was cause to
pub record Grows (Cause : ℕ → Type 0) (old new : List Mark) : Type 0 where
  pub same_length : length new ≡ length old
  pub each : (at : ℕ) → (mark_at new at ≡ mark_at old at) ⊎ IsNewlySeen Cause old new at

-- the lowest place from a start on that was seen, and the end where none was
pub record IsLowest (start lowest : ℕ) (marks : List Mark) : Type 0 where
  pub above : start ≤ lowest
  pub within : lowest ≤ length marks
  pub none_below : (at : ℕ) → start ≤ at → at < lowest → ¬ IsSeen marks at
  pub there : lowest < length marks → IsSeen marks lowest

-- a place was given up, and what is behind it stays
pub record IsResolved (place : ℕ) (old new : List Mark) : Type 0 where
  pub same_length : length new ≡ length old
  pub keeps : Keeps old new
  pub given_up : ¬ IsSeen new place
  pub behind : (at : ℕ) → place < at → mark_at new at ≡ mark_at old at

-- the one place from a start on that is seen
pub record IsPoint (start point : ℕ) (marks : List Mark) : Type 0 where
  pub above : start ≤ point
  pub within : point < length marks
  pub seen : IsSeen marks point
  pub alone : (at : ℕ) → start ≤ at → IsSeen marks at → at ≡ point

-- a false literal is covered; a place that was clear may be seen for that, and the lowest is the new lowest
pub record MarksCause (trail : Trail) (lit : Lit) (start lowest : ℕ) (old new : List Mark) : Type 0 where
  pub grows : Grows (IsCause trail lit) old new
  pub covered : IsCovered trail new lit
  pub is_lowest : IsLowest start lowest new

-- the same of the first so many literals of a clause that are false
pub record MarksCauses (trail : Trail) (clause : List Lit) (count start lowest : ℕ) (old new : List Mark) : Type 0 where
  pub grows : Grows (λ at. Any (λ lit. IsCause trail lit at) clause) old new
  pub covered : (k : ℕ) → k < count → HoldsAt (λ lit. IsFalseIn (box trail) lit → IsCovered trail new lit) clause k
  pub is_lowest : IsLowest start lowest new

-- a place was given up, and the marks are marks still
pub record Resolves (state : Search) (place start lowest : ℕ) (old new : List Mark) : Type 0 where
  pub marks : AreMarks state new
  pub resolved : IsResolved place old new
  pub is_lowest : IsLowest start lowest new

-- on the way from the end of the trail to the point, no place from one on is seen
pub record IsSearching (state : Search) (start lowest at : ℕ) (old new : List Mark) : Type 0 where
  pub marks : AreMarks state new
  pub same_length : length new ≡ length old
  pub keeps : Keeps old new
  pub is_lowest : IsLowest start lowest new
  pub below : lowest < at
  pub within : at ≤ length new
  pub none_from : (k : ℕ) → at ≤ k → ¬ IsSeen new k

pub record FindsPoint (state : Search) (start point : ℕ) (old new : List Mark) : Type 0 where
  pub marks : AreMarks state new
  pub keeps : Keeps old new
  pub is_point : IsPoint start point new

-- the places from one on and below a base were given up
pub record ResolvesFrom (state : Search) (from base : ℕ) (old new : List Mark) : Type 0 where
  pub marks : AreMarks state new
  pub same_length : length new ≡ length old
  pub keeps : Keeps old new
  pub none : (at : ℕ) → from ≤ at → at < base → ¬ IsSeen new at
  pub above : (at : ℕ) → base ≤ at → mark_at new at ≡ mark_at old at
