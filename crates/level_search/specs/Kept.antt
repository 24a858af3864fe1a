-- What is kept of a search on one level of a proof.
use Rattle.std.specs.Prelude.{◌≡◌, ◌⊎◌, List, [], ◌∷◌, length, IfSome, All, Contains}
use Rattle.mix_system.specs.declared.literal.Lit.{Lit}
use Rattle.mix_system.specs.System.{System, IsWellFormed, Exists}
use Rattle.mix_system.specs.Bounds.{IsFalseIn, unit_bounds}
use Rattle.mix_system.specs.Calm.{IsSmall}
use Rattle.clause_search.specs.Search.{Search, WasQuiet}
use Rattle.proof_term.specs.declared.step.Step.{Step}
use Rattle.level_steps.specs.Level.{Level, available, box_of}
use Rattle.level_steps.specs.Steps.{AreSteps, AreOpen}
use Rattle.level_steps.specs.Plain.{IsNamed, IsPlain}
use Rattle.level_search.specs.declared.level.LevelSearch.{LevelSearch}
use Rattle.level_search.specs.Local.{AreNumbered}

-- the level on which it works
abbrev pub level_of : LevelSearch → Level
level_of it = record { system = it.system.now; cuts = it.cuts.items; goal = it.goal }

-- the literal is that of a clause of the system, or a small one that was set: the store has it as a clause of its own
abbrev pub IsAllowed : System → List (List Lit) → Lit → Type 0
IsAllowed system store lit = IsNamed system lit ⊎ (IsSmall lit.bound × Contains store (lit ∷ []))

-- the store and the trail are those of the system, and have such literals alone
pub record IsOverLevel (system : System) (state : Search) : Type 0 where
  pub ranges : state.trail.ranges ≡ system.ranges
  pub rows : state.trail.rows ≡ length system.rows
  pub stored : All (All (IsAllowed system state.store)) state.store
  pub put : All (IsAllowed system state.store) state.trail.lits

-- a goal's literal is on a term of the system, and small
pub record IsGoal (system : System) (lit : Lit) : Type 0 where
  pub known : Exists (length system.ranges) (length system.rows) lit.term
  pub small : IsSmall lit.bound

-- the steps are valid on the level and plain, and the store has the level's clauses
pub record IsKept (it : LevelSearch) : Type 0 where
  pub formed : IsWellFormed it.system.now
  pub over : IsOverLevel it.system.now it.search
  pub valid : AreSteps (level_of it) it.steps.items
  pub plain : All (IsPlain it.system.now) it.steps.items
  pub numbered : AreNumbered it.search.store (available (level_of it) it.steps.items) it.goal it.numbers.items
  pub singles : it.singles.items ≡ unit_bounds it.search.store
  pub goal_is : IfSome it.goal (IsGoal it.system.now)

-- the empty clause wasn't logged yet, and the search may go on
pub record IsWorking (it : LevelSearch) : Type 0 where
  pub kept : IsKept it
  pub quiet : WasQuiet it.search
  pub open_ : AreOpen it.steps.items

-- the level's bounds don't contradict its goal
abbrev pub GoalStands : Level → List Step → Type 0
GoalStands level steps = IfSome level.goal (λ goal. ¬ IsFalseIn (box_of level steps) goal)
