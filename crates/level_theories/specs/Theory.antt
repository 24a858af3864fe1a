-- What is logged of a tree that refutes the bounds in force.
use Rattle.std.specs.Prelude.{◌≡◌, ◌≢◌, ◌⊎◌, ℕ, ◌<◌, ◌≤◌, List, [], ◌∷◌, ◌++◌, length, All, AllPairs, Contains}
use Rattle.mix_system.specs.declared.literal.Lit.{Lit}
use Rattle.mix_system.specs.Lit.{negation}
use Rattle.mix_system.specs.Bounds.{IsIn, IsFalseIn, range_bounds}
use Rattle.bound_trail.specs.Trail.{box, box_at}
use Rattle.clause_search.specs.Search.{Search}
use Rattle.clause_search.specs.Settled.{LeavesTwo}
use Rattle.proof_term.specs.declared.tree.Node.{Node}
use Rattle.proof_term.specs.declared.tree.Node.TheVariants.{Leaf, Split}
use Rattle.proof_term.specs.declared.step.Step.{Step}
use Rattle.level_steps.specs.Level.{clause_of, box_of}
use Rattle.level_steps.specs.Plain.{IsNamed}
use Rattle.level_search.specs.declared.level.LevelSearch.{LevelSearch}
use Rattle.level_search.specs.declared.learning.Learning.{Learning}
use Rattle.level_search.specs.declared.learning.Learning.TheVariants.{Going, Ended, Spent}
use Rattle.level_search.specs.Kept.{level_of, IsWorking}
use Rattle.level_search.specs.Learning.{trail_at, Ends}

-- a literal that is true on the trail is one of its literals, or a range says it
abbrev pub IsExact : Search → Lit → Type 0
IsExact state lit = IsIn (box state.trail) lit → Contains state.trail.lits lit ⊎ IsIn (range_bounds state.trail.ranges) lit

-- each literal of a leaf is such
abbrev pub NodeIsExact : Search → Node → Type 0
NodeIsExact state (Leaf farkas) = All (λ part. IsExact state part.lit) farkas.parts
NodeIsExact state (Split var at) = Unit {0}

-- a literal of a leaf isn't true on the trail, the level's bounds say it, or its negation is in the clause
abbrev pub IsCovered : LevelSearch → List Lit → Lit → Type 0
IsCovered it lits lit =
    (¬ IsIn (box it.search.trail) lit) ⊎ (IsIn (box_of (level_of it) it.steps.items) lit ⊎ Contains lits (negation lit))

abbrev pub NodeIsCovered : LevelSearch → List Lit → Node → Type 0
NodeIsCovered it lits (Leaf farkas) = All (λ part. IsCovered it lits part.lit) farkas.parts
NodeIsCovered it lits (Split var at) = Unit {0}

-- a literal of the clause: false on the trail, with an atom of the system's clauses, and its negation isn't said by the level's bounds
pub record IsExcluded (it : LevelSearch) (lit : Lit) : Type 0 where
  pub is_false : IsFalseIn (box it.search.trail) lit
  pub named : IsNamed it.system.now lit
  pub unsaid : ¬ IsIn (box_of (level_of it) it.steps.items) (negation lit)

-- such literals, none of them twice
pub record AreExcluded (it : LevelSearch) (lits : List Lit) : Type 0 where
  pub each : All (IsExcluded it) lits
  pub distinct : AllPairs (λ lit later. lit ≢ later) lits

-- what was in the list still is
abbrev pub HasMore : List Lit → List Lit → Type 0
HasMore old new = (lit : Lit) → Contains old lit → Contains new lit

-- below that level two literals of the clause weren't false yet, and it is 0 or at most one wasn't at its end
pub record IsBackLevel (state : Search) (lits : List Lit) (level : ℕ) : Type 0 where
  pub present : level ≤ length state.trail.levels
  pub below : (lower : ℕ) → lower < level → LeavesTwo (box_at state.trail lower) lits
  pub there : ¬ LeavesTwo (box_at state.trail level) lits

-- one theory more was logged; the trail is that of the level to go back to, and the clause stands in the store
pub record Excludes (old new : LevelSearch) : Type 0 where
  pub working : IsWorking new
  pub level : level_of new ≡ level_of old
  pub step : Step
  pub steps : new.steps.items ≡ old.steps.items ++ step ∷ []
  pub lits : All (IsExcluded old) (clause_of step)
  pub back : ℕ
  pub back_is : IsBackLevel old.search (clause_of step) back
  pub search : new.search ≡ record { store = old.search.store ++ clause_of step ∷ []; trail = trail_at old.search.trail back }

abbrev pub Refutes : Learning → LevelSearch → LevelSearch → Type 0
Refutes Going old new = Excludes old new
Refutes Ended old new = Ends old new
Refutes Spent old new = ⊥
