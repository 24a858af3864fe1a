-- What a look at a watcher comes to, and what is known of those that were looked at.
use Rattle.std.specs.Prelude.{◌≡◌, ◌≢◌, ◌⊎◌, ℕ, ◌+◌, ◌^◌, ◌<◌, ◌≤◌, max, ℤ, List, length, slice_get, slice_index_or, Option, Some, None, Contains}
use Rattle.std.specs.List.{HoldsAt}
use Rattle.mix_system.specs.declared.literal.Lit.{Lit}
use Rattle.mix_system.specs.declared.tally.Tally.{Tally}
use Rattle.mix_system.specs.Bounds.{IsFalseIn}
use Rattle.mix_system.specs.System.{Exists}
use Rattle.bound_trail.specs.Edges.{place_of}
use Rattle.bound_trail.specs.Trail.{box, box_with}
use Rattle.clause_search.specs.Search.{Search, Propagated}
use Rattle.clause_search.specs.Settled.{HasTrue}
use Rattle.clause_search.specs.Answers.{Says}
use Rattle.clause_search.specs.Watched.{list_at, IsRight}
use Rattle.clause_search.specs.declared.pairs.Pair.{Pair}
use Rattle.clause_search.specs.declared.pairs.Latest.{Latest}
use Rattle.clause_search.specs.declared.spread.Spread.{Spread}
use Rattle.clause_search.specs.declared.watch_lists.Watcher.{Watcher}
use Rattle.clause_search.specs.declared.watches.Watches.{Watches}
use Rattle.clause_search.specs.declared.watches.Visit.{Visit}
use Rattle.clause_search.specs.declared.watches.Visit.TheVariants.{Kept, Gone, Stopped}

-- the two are the watched places, and this one is the first or the second of them
pub record IsOther (pair : Pair) (at other : ℕ) : Type 0 where
  pub apart : pair.first ≢ pair.second
  pub sides : ((pair.first ≡ at) × (pair.second ≡ other)) ⊎ ((pair.second ≡ at) × (pair.first ≡ other))

abbrev pub IsNeither : Pair → ℕ → Type 0
IsNeither pair at = pair.first ≢ pair.second → (at ≢ pair.first) × (at ≢ pair.second)

-- the watcher's clause watches its literal, and this other one
pub record IsPartner (pairs : List Pair) (watcher : Watcher) (other : ℕ) : Type 0 where
  pub pair : Pair
  pub paired : slice_get pairs watcher.number ≡ Some pair
  pub is_other : IsOther pair watcher.at other

-- the watcher's clause doesn't watch its literal any more
abbrev pub IsStale : List Pair → Watcher → Type 0
IsStale pairs watcher = (pair : Pair) → slice_get pairs watcher.number ≡ Some pair → IsNeither pair watcher.at

-- of the first literals of a clause all but the one at a place are false
abbrev pub AreFalseBut : List Lit → List Lit → ℕ → ℕ → Type 0
AreFalseBut bounds clause other at = (k : ℕ) → k < at → k ≢ other → HoldsAt (IsFalseIn bounds) clause k

-- each watcher is still in its list
pub record Adds (old new : List (List Watcher)) : Type 0 where
  pub same_length : length new ≡ length old
  pub kept : (list : ℕ) (watcher : Watcher) → Contains (list_at old list) watcher → Contains (list_at new list) watcher

-- each watcher but one is still in its list
pub record KeepsBut (lost : Watcher) (old new : List (List Watcher)) : Type 0 where
  pub same_length : length new ≡ length old
  pub kept : (list : ℕ) (watcher : Watcher) → watcher ≢ lost → Contains (list_at old list) watcher → Contains (list_at new list) watcher

-- those before a place stand where they stood
abbrev pub SameBefore : ℕ → List Watcher → List Watcher → Type 0
SameBefore at old new = (k : ℕ) (d : Watcher) → k < at → slice_index_or new k d ≡ slice_index_or old k d

-- the watcher at a place of a list was taken out
pub record Takes (list at : ℕ) (old new : List (List Watcher)) : Type 0 where
  pub keeps : (lost : Watcher) → lost ≡ slice_index_or (list_at old list) at lost → KeepsBut lost old new
  pub fewer : length (list_at new list) + 1 ≡ length (list_at old list)
  pub before : SameBefore at (list_at old list) (list_at new list)

-- another watcher stands in the place of one
pub record Replaces (list at : ℕ) (watcher : Watcher) (old new : List (List Watcher)) : Type 0 where
  pub keeps : (lost : Watcher) → lost ≡ slice_index_or (list_at old list) at lost → KeepsBut lost old new
  pub as_many : length (list_at new list) ≡ length (list_at old list)
  pub before : SameBefore at (list_at old list) (list_at new list)
  pub there : HoldsAt (λ it. it ≡ watcher) (list_at new list) at

-- a watcher moved from a place of a list to another list or, changed, to the same place
abbrev pub Moves : Visit → ℕ → ℕ → ℕ → Watcher → List (List Watcher) → List (List Watcher) → Type 0
Moves Kept list at target watcher old new = (target ≡ list) × Replaces list at watcher old new
Moves Gone list at target watcher old new = Takes list at old new × Contains (list_at new target) watcher
Moves (Stopped spread) list at target watcher old new = ⊥

-- a watcher's literal
abbrev pub watched_lit : Lit → ℤ → Lit
watched_lit key bound = record { term = key.term; side = key.side; bound = bound }

-- the watcher's clause has a true literal, or its literal isn't false by the first so many literals of the trail
abbrev pub IsDone : Search → ℕ → Lit → Watcher → Type 0
IsDone state count key watcher =
    ((clause : List Lit) → slice_get state.store watcher.number ≡ Some clause → HasTrue (box state.trail) clause) ⊎ (¬ IsFalseIn (box_with state.trail count) (watched_lit key watcher.bound))

-- the watchers before a place of a list are done
abbrev pub AreDone : Search → ℕ → Lit → List Watcher → ℕ → Type 0
AreDone state count key watchers at = (k : ℕ) → k < at → HoldsAt (IsDone state count key) watchers k

-- the list of a literal's term and side is gone through, behind the head
pub record IsVisiting (state : Search) (it : Watches) (key : Lit) (list at : ℕ) : Type 0 where
  pub term : Exists (length state.trail.ranges) state.trail.rows key.term
  pub list_is : list ≡ place_of (length state.trail.ranges) key.term key.side
  pub behind : it.head < length state.trail.lits
  pub done : AreDone state (it.head + 1) key (list_at it.lists list) at

-- the watches stay right while literals are put
pub record Goes (old new : Search) (was is : Watches) (before after : Tally) : Type 0 where
  pub propagated : Propagated old new before after
  pub right : IsRight new is
  pub same_head : is.head ≡ was.head
  pub same_count : length is.pairs.items ≡ length was.pairs.items

abbrev pub Visits : Visit → ℕ → ℕ → Lit → Search → Watches → Watches → Tally → Type 0
Visits Kept list at key state was is tally =
    (length (list_at is.lists list) ≡ length (list_at was.lists list)) × AreDone state (is.head + 1) key (list_at is.lists list) (at + 1)
Visits Gone list at key state was is tally =
    (length (list_at is.lists list) + 1 ≡ length (list_at was.lists list)) × AreDone state (is.head + 1) key (list_at is.lists list) at
Visits (Stopped spread) list at key state was is tally = Says spread state tally

-- the literal at the head was worked, or a clause is false or the budget is spent
abbrev pub Works : Option Spread → Search → Watches → Watches → Tally → Type 0
Works None state was is tally = is.head ≡ was.head + 1
Works (Some spread) state was is tally = Says spread state tally

-- each clause was looked at
abbrev pub Looks : Option Spread → Search → Watches → Tally → Type 0
Looks None state is tally = length is.pairs.items ≡ length state.store
Looks (Some spread) state is tally = Says spread state tally

-- of the first literals of a clause those two became false last, or aren't false
pub record IsLatest (bounds clause : List Lit) (at : ℕ) (latest : Latest) : Type 0 where
  pub first_within : latest.first < max at 1
  pub second_within : latest.second < max at 1
  pub ordered : latest.low ≤ latest.high
  pub bounded : latest.high ≤ 2 ^ 32
  pub one : latest.high ≡ 2 ^ 32 → (latest.first < at) × HoldsAt (λ lit. ¬ IsFalseIn bounds lit) clause latest.first
  pub other : latest.low ≡ 2 ^ 32 → (latest.second < at) × (latest.first ≢ latest.second) × HoldsAt (λ lit. ¬ IsFalseIn bounds lit) clause latest.second
  pub rest : (k : ℕ) → k < at → HoldsAt (λ lit. ¬ IsFalseIn bounds lit) clause k → (latest.low ≡ 2 ^ 32) ⊎ ((latest.high ≡ 2 ^ 32) × (k ≡ latest.first))
