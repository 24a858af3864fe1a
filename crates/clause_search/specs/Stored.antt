-- What a stored search means, and what it keeps.
use Rattle.std.specs.Prelude.{◌≡◌, ℕ, ◌^◌, ◌<◌, List, length, slice_get, slice_index_or, Option, Some, None, All, Contains}
use Rattle.std.specs.List.{HoldsAt}
use Rattle.mix_system.specs.declared.literal.Lit.{Lit}
use Rattle.mix_system.specs.System.{IsClause}
use Rattle.mix_system.specs.Follows.{LeavesOne}
use Rattle.bound_trail.specs.Trail.{box_with, IsTrail}
use Rattle.clause_search.specs.Search.{Search}
use Rattle.clause_search.specs.declared.clause_trail.ClauseTrail.TheInside.{Inside}

abbrev pub lists : Inside → Search
lists it = record { store = it.clauses; trail = it.trail }

-- the literal at a place of the trail was the one literal of the clause of that number that wasn't false; or it was decided, and a level begins with it
abbrev pub IsReason : Search → ℕ → Option ℕ → Type 0
IsReason state at None = Contains state.trail.levels at
IsReason state at (Some number) =
    (clause : List Lit) × (slice_get state.store number ≡ Some clause) × HoldsAt (LeavesOne (box_with state.trail at) clause) state.trail.lits at

-- the clauses of a search
pub record AreClauses (state : Search) : Type 0 where
  pub each : All (IsClause (length state.trail.ranges) state.trail.rows) state.store
  pub few : length state.store < 2 ^ 31

pub record AreReasons (state : Search) (reasons : List (Option ℕ)) : Type 0 where
  pub one_each : length reasons ≡ length state.trail.lits
  pub each : (at : ℕ) → at < length state.trail.lits → IsReason state at (slice_index_or reasons at None)

pub record IsSound (it : Inside) : Type 0 where
  pub trail : IsTrail it.trail
  pub clauses : AreClauses (lists it)
  pub reasons : AreReasons (lists it) it.reasons.items
