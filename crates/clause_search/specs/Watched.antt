-- Which literals of the clauses are watched, and what is known of them.
use Rattle.std.specs.Prelude.{◌≡◌, ◌≢◌, ◌⊎◌, ℕ, ◌+◌, ◌*◌, ◌<◌, ◌≤◌, List, [], length, slice_get, slice_index_or, Some, Contains}
use Rattle.mix_system.specs.declared.literal.Lit.{Lit}
use Rattle.bound_trail.specs.Edges.{place_of, blank_lit}
use Rattle.bound_trail.specs.Trail.{box, box_with, box_at}
use Rattle.clause_search.specs.Search.{Search, present_level}
use Rattle.clause_search.specs.Settled.{IsLeftAt, HasTrue}
use Rattle.clause_search.specs.declared.pairs.Pair.{Pair}
use Rattle.clause_search.specs.declared.watch_lists.Watcher.{Watcher}
use Rattle.clause_search.specs.declared.watches.Watches.{Watches}

abbrev pub list_at : List (List Watcher) → ℕ → List Watcher
list_at lists list = slice_index_or lists list []

abbrev pub lit_of : List Lit → ℕ → Lit
lit_of clause at = slice_index_or clause at blank_lit

-- what stands in the list of a literal's term and side where it is watched
abbrev pub watcher_of : ℕ → List Lit → ℕ → Watcher
watcher_of number clause at = record { bound = (lit_of clause at).bound; number = number; at = at }

-- the literal at a place of the clause is watched
pub record IsListed (vars : ℕ) (lists : List (List Watcher)) (number : ℕ) (clause : List Lit) (at : ℕ) : Type 0 where
  pub within : at < length clause
  pub among : Contains (list_at lists (place_of vars (lit_of clause at).term (lit_of clause at).side)) (watcher_of number clause at)

-- both are, where the pair has two
abbrev pub AreListed : ℕ → List (List Watcher) → ℕ → List Lit → Pair → Type 0
AreListed vars lists number clause pair =
    pair.first ≢ pair.second → IsListed vars lists number clause pair.first × IsListed vars lists number clause pair.second

-- the clause has two watched literals, and neither is false
pub record AreLeft (bounds clause : List Lit) (pair : Pair) : Type 0 where
  pub apart : pair.first ≢ pair.second
  pub one : IsLeftAt bounds clause pair.first
  pub other : IsLeftAt bounds clause pair.second

-- by some bounds a literal is true, or by others the watched ones aren't false
abbrev pub Stands : List Lit → List Lit → List Lit → Pair → Type 0
Stands truths bounds clause pair = HasTrue truths clause ⊎ AreLeft bounds clause pair

-- a clause that was looked at is watched: it stands by the literals before the head, and stood at the end of each level from the base on
pub record IsWatched (state : Search) (lists : List (List Watcher)) (pairs : List Pair) (head base number : ℕ) : Type 0 where
  pub clause : List Lit
  pub pair : Pair
  pub among : slice_get state.store number ≡ Some clause
  pub paired : slice_get pairs number ≡ Some pair
  pub listed : AreListed (length state.trail.ranges) lists number clause pair
  pub stands : Stands (box state.trail) (box_with state.trail head) clause pair
  pub stood : (level : ℕ) → base ≤ level → level < present_level state → Stands (box_at state.trail level) (box_at state.trail level) clause pair

pub record AreWatched (state : Search) (lists : List (List Watcher)) (pairs : List Pair) (head base : ℕ) : Type 0 where
  pub few : length pairs ≤ length state.store
  pub places : length lists ≡ 2 * (length state.trail.ranges + state.trail.rows)
  pub head_within : head ≤ length state.trail.lits
  pub base_within : base ≤ present_level state
  pub each : (number : ℕ) → number < length pairs → IsWatched state lists pairs head base number

abbrev pub IsRight : Search → Watches → Type 0
IsRight state it = AreWatched state it.lists it.pairs.items it.head it.base
