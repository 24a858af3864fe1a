-- The local numbers of a store's clauses.
use Rattle.std.specs.Prelude.{◌≡◌, ℕ, List, [], ◌∷◌, length, filter_map, slice_get, slice_index_or, Option, Some, None}
use Rattle.std.specs.Option.{option_to_list}
use Rattle.mix_system.specs.declared.literal.Lit.{Lit}
use Rattle.mix_system.specs.Bounds.{IsIn, unit_bounds}

-- the clause of the store is the available one of that local number; without a number it is a goal's, which the present goal's literal implies
abbrev pub IsNumber : List (List Lit) → Option Lit → List Lit → Option ℕ → Type 0
IsNumber available goal clause None = (lit : Lit) × (clause ≡ lit ∷ []) × IsIn (option_to_list goal) lit
IsNumber available goal clause (Some number) = slice_get available number ≡ Some clause

-- each clause of the store has its number, and the store's single literals say all that those of the level say
pub record AreNumbered (store available : List (List Lit)) (goal : Option Lit) (numbers : List (Option ℕ)) : Type 0 where
  pub one_each : length numbers ≡ length store
  pub each : (at : ℕ) (clause : List Lit) → slice_get store at ≡ Some clause → IsNumber available goal clause (slice_index_or numbers at None)
  pub units : (lit : Lit) → IsIn (unit_bounds available) lit → IsIn (unit_bounds store) lit
  pub goal_too : (lit : Lit) → IsIn (option_to_list goal) lit → IsIn (unit_bounds store) lit

-- the local numbers of those of the clauses that have one
abbrev pub local_hints : List (Option ℕ) → List ℕ → List ℕ
local_hints numbers hints = filter_map (λ hint. slice_index_or numbers hint None) hints
