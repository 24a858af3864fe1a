-- What a look at one clause comes to.
use Rattle.std.specs.Prelude.{◌≡◌, ℕ, List, slice_get, Option, Some, None}
use Rattle.mix_system.specs.declared.literal.Lit.{Lit}
use Rattle.mix_system.specs.declared.tally.Tally.{Tally}
use Rattle.bound_trail.specs.Trail.{box}
use Rattle.clause_search.specs.Settled.{IsSettled}
use Rattle.clause_search.specs.Search.{Search}
use Rattle.clause_search.specs.Answers.{Says}
use Rattle.clause_search.specs.declared.spread.Spread.{Spread}

-- the clause of that number asks for nothing
pub record IsSettledAt (state : Search) (at : ℕ) : Type 0 where
  pub clause : List Lit
  pub among : slice_get state.store at ≡ Some clause
  pub settled : IsSettled (box state.trail) clause

abbrev pub Settles : Option Spread → ℕ → Search → Tally → Type 0
Settles None at state tally = IsSettledAt state at
Settles (Some spread) at state tally = Says spread state tally
