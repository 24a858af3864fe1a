-- A search over clauses: its store, and a trail with levels.
use Rattle.std.specs.Prelude.{◌≡◌, ℕ, ◌+◌, ◌<◌, ◌≤◌, List, ◌++◌, length, slice_get, All, Any}
use Rattle.std.specs.List.{HoldsAt}
use Rattle.mix_system.specs.declared.literal.Lit.{Lit}
use Rattle.mix_system.specs.declared.tally.Tally.{Tally}
use Rattle.mix_system.specs.Bounds.{range_bounds, unit_bounds}
use Rattle.mix_system.specs.Follows.{Known, LeavesOne}
use Rattle.bound_trail.specs.Trail.{Trail, box_with, box_at}
use Rattle.clause_search.specs.Settled.{IsSettled}

-- the clauses by their numbers, and the trail
pub record Search : Type 0 where
  pub store : List (List Lit)
  pub trail : Trail

-- the clauses that hints name
abbrev pub known : Search → Known
known state at = slice_get state.store at

-- what holds without the trail: the ranges, and the clauses of one literal, on the trail or not
abbrev pub single_bounds : Search → List Lit
single_bounds state = range_bounds state.trail.ranges ++ unit_bounds state.store

-- the level in work
abbrev pub present_level : Search → ℕ
present_level state = length state.trail.levels

-- at the end of each level below the present one every clause asked for nothing
abbrev pub WasQuiet : Search → Type 0
WasQuiet state =
    (level : ℕ) → level < present_level state → All (IsSettled (box_at state.trail level)) state.store

-- the literal at a place of the trail was the one literal of some clause of the store that wasn't false
abbrev pub IsImpliedAt : Search → ℕ → Type 0
IsImpliedAt state at =
    HoldsAt (λ lit. Any (λ clause. LeavesOne (box_with state.trail at) clause lit) state.store) state.trail.lits at

-- new has counted so many propagations more than old, and is otherwise as old
pub record CountsPropagations (count : ℕ) (old new : Tally) : Type 0 where
  pub decisions : new.decisions ≡ old.decisions
  pub propagations : new.propagations ≡ old.propagations + count
  pub conflicts : new.conflicts ≡ old.conflicts
  pub splits : new.splits ≡ old.splits
  pub checks : new.checks ≡ old.checks
  pub budget : new.budget ≡ old.budget

-- new is old with more literals on the trail, each implied where it was put
pub record HasGrown (old new : Search) : Type 0 where
  pub added : List Lit
  pub lits : new ≡ record old { trail = record old.trail { lits = old.trail.lits ++ added } }
  pub implied : (at : ℕ) → length old.trail.lits ≤ at → at < length new.trail.lits → IsImpliedAt new at

-- and for each a propagation was counted
pub record Propagated (old new : Search) (before after : Tally) : Type 0 where
  pub grown : HasGrown old new
  pub counted : CountsPropagations (length grown.added) before after
