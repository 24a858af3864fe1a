-- What a look at a clause tells.
use Rattle.std.specs.Prelude.{◌≢◌, ℕ, ◌<◌, List, Option, Some, None}
use Rattle.std.specs.List.{HoldsAt}
use Rattle.mix_system.specs.Bounds.{IsIn, IsFalseIn}
use Rattle.mix_system.specs.declared.literal.Lit.{Lit}
use Rattle.mix_system.specs.Follows.{LeavesNone, LeavesOne}
use Rattle.clause_search.specs.Settled.{HasTrue, IsSettled}
use Rattle.clause_search.specs.declared.look.Standing.{Standing}
use Rattle.clause_search.specs.declared.look.Standing.TheVariants.{Settled, Implies, Broken}

-- the literal is the one that isn't false, and none is true
pub record IsImplied (bounds clause : List Lit) (lit : Lit) : Type 0 where
  pub one : LeavesOne bounds clause lit
  pub none_true : ¬ HasTrue bounds clause

abbrev pub Tells : Standing → List Lit → List Lit → Type 0
Tells Settled bounds clause = IsSettled bounds clause
Tells (Implies lit) bounds clause = IsImplied bounds clause lit
Tells Broken bounds clause = LeavesNone bounds clause

-- of the literals before a place all are false, or all but the one at this place
abbrev pub LeftIs : List Lit → List Lit → ℕ → Option ℕ → Type 0
LeftIs bounds clause at None = (k : ℕ) → k < at → HoldsAt (IsFalseIn bounds) clause k
LeftIs bounds clause at (Some place) =
    (place < at) × HoldsAt (λ lit. ¬ IsFalseIn bounds lit) clause place × ((k : ℕ) → k < at → k ≢ place → HoldsAt (IsFalseIn bounds) clause k)

-- and none of them is true
pub record IsSeen (bounds clause : List Lit) (at : ℕ) (left : Option ℕ) : Type 0 where
  pub none_true : (k : ℕ) → k < at → HoldsAt (λ lit. ¬ IsIn bounds lit) clause k
  pub left_is : LeftIs bounds clause at left
