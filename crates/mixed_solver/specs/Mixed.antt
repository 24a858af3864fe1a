-- What is kept of a solver, and what its answers say.
use Rattle.std.specs.Prelude.{◌≡◌, ◌≢◌, ◌≤◌, List, [], ◌∷◌, ◌++◌, map, All, Contains}
use Rattle.mix_system.specs.declared.literal.Lit.{Lit}
use Rattle.mix_system.specs.declared.tally.Tally.{Tally}
use Rattle.mix_system.specs.Lit.{negation}
use Rattle.mix_system.specs.Bounds.{IsIn, IsFalseIn}
use Rattle.mix_system.specs.Calm.{IsCalm}
use Rattle.mix_system.specs.Tally.{units}
use Rattle.bound_trail.specs.Trail.{level_end}
use Rattle.proof_term.specs.declared.step.Step.{Step}
use Rattle.level_steps.specs.Level.{Level, Meets, clause_of, available, box_of}
use Rattle.level_steps.specs.Steps.{HaveEnded}
use Rattle.level_search.specs.Kept.{level_of, IsKept, IsWorking}
use Rattle.trail_bounds.specs.TrailBounds.{AreBoundsOf}
use Rattle.level_search.specs.declared.level.LevelSearch.{LevelSearch}
use Rattle.mixed_solver.specs.declared.mixed.Mixed.{Mixed}
use Rattle.mixed_solver.specs.declared.mix.Mix.{Mix}
use Rattle.mixed_solver.specs.declared.mix.Mix.TheVariants.{Found, Impossible, Spent}

-- the store has each clause that a step may name
abbrev pub IsStored : LevelSearch → Type 0
IsStored it = All (Contains it.search.store) (available (level_of it) it.steps.items)

-- what holds between calls, as long as the steps haven't ended
pub record IsMixed (it : Mixed) : Type 0 where
  pub working : IsWorking it.level
  pub stored : IsStored it.level
  pub calm : IsCalm it.level.system.now
  pub bounds : AreBoundsOf it.level.system.now it.level.search.trail.lits it.bounds
  pub ground : it.bounds.ground ≤ level_end it.level.search.trail 0

-- the same, at level 0: goals and cuts may be set
pub record IsAtGround (it : Mixed) : Type 0 where
  pub mixed : IsMixed it
  pub ground : it.level.search.trail.levels ≡ []

-- The step says more than each clause that it may name: none of them has literals of its clause alone. And the bounds of the level, with the
-- negations of its literals, don't contradict each other.
pub record IsFresh (level : Level) (before : List Step) (step : Step) : Type 0 where
  pub says_more : All (λ other. ¬ All (Contains (clause_of step)) other) (available level before)
  pub apart : (lit : Lit) → IsIn (map negation (clause_of step) ++ box_of level before) lit → ¬ IsFalseIn (map negation (clause_of step) ++ box_of level before) lit

-- each of the later steps is so behind those before it, but for the empty clause
abbrev pub AreFresh : Level → List Step → List Step → Type 0
AreFresh level before [] = Unit {0}
AreFresh level before (step ∷ more) = (clause_of step ≢ [] → IsFresh level before step) × AreFresh level (before ++ step ∷ []) more

-- the later one is on the same level, and its steps begin with those before; those that came are fresh
pub record GoesOn (old new : LevelSearch) : Type 0 where
  pub level : level_of new ≡ level_of old
  pub more : List Step
  pub steps : new.steps.items ≡ old.steps.items ++ more
  pub fresh : AreFresh (level_of old) old.steps.items more

-- Found: the point fits the system, meets the goal's literal and all cuts. Impossible: the steps, which are valid, have ended.
-- Spent: the tally is at its budget.
abbrev pub Answers : Mix → Mixed → Tally → Type 0
Answers (Found point) new after = Meets (level_of new.level) point × IsAtGround new
Answers Impossible new after = HaveEnded new.level.steps.items × IsKept new.level
Answers Spent new after = (units after ≡ after.budget) × IsMixed new
