-- What the answers of a propagation say.
use Rattle.std.specs.Prelude.{◌≡◌, ℕ, List, slice_get, Some, All, Any}
use Rattle.mix_system.specs.declared.literal.Lit.{Lit}
use Rattle.mix_system.specs.declared.tally.Tally.{Tally}
use Rattle.mix_system.specs.Tally.{units}
use Rattle.mix_system.specs.Follows.{LeavesNone}
use Rattle.bound_trail.specs.Trail.{box}
use Rattle.clause_search.specs.Settled.{IsSettled, IsUnit}
use Rattle.clause_search.specs.Search.{Search}
use Rattle.clause_search.specs.declared.spread.Spread.{Spread}
use Rattle.clause_search.specs.declared.spread.Spread.TheVariants.{Quiet, Conflict, Spent}

-- the clause of that number is in the store, and all its literals are false
pub record IsConflict (state : Search) (at : ℕ) : Type 0 where
  pub clause : List Lit
  pub among : slice_get state.store at ≡ Some clause
  pub none_left : LeavesNone (box state.trail) clause

-- the budget is spent, and some clause implies a literal
pub record IsSpent (state : Search) (tally : Tally) : Type 0 where
  pub at_budget : units tally ≡ tally.budget
  pub wanting : Any (IsUnit (box state.trail)) state.store

abbrev pub Says : Spread → Search → Tally → Type 0
Says Quiet state tally = All (IsSettled (box state.trail)) state.store
Says (Conflict at) state tally = IsConflict state at
Says Spent state tally = IsSpent state tally
