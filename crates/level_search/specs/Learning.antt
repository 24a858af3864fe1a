-- What is said of an answer to a conflict.
use Rattle.std.specs.Prelude.{◌≡◌, ℕ, List, [], ◌∷◌, ◌++◌, take}
use Rattle.mix_system.specs.declared.tally.Tally.{Tally}
use Rattle.mix_system.specs.declared.tally.Work.TheVariants.{Conflict}
use Rattle.mix_system.specs.Tally.{units, CountsOne}
use Rattle.bound_trail.specs.Trail.{Trail, level_end}
use Rattle.clause_search.specs.Learnt.{IsLearnt}
use Rattle.proof_term.specs.declared.step.Step.{Step}
use Rattle.level_steps.specs.Level.{clause_of}
use Rattle.level_steps.specs.Steps.{HaveEnded}
use Rattle.level_search.specs.declared.level.LevelSearch.{LevelSearch}
use Rattle.level_search.specs.declared.learning.Learning.{Learning}
use Rattle.level_search.specs.declared.learning.Learning.TheVariants.{Going, Ended, Spent}
use Rattle.level_search.specs.Kept.{level_of, IsKept, IsWorking}

-- the trail at the end of a level
abbrev pub trail_at : Trail → ℕ → Trail
trail_at trail level = record trail { lits = take (level_end trail level) trail.lits; levels = take level trail.levels }

-- one step more was logged, with which they have ended
pub record Ends (old new : LevelSearch) : Type 0 where
  pub kept : IsKept new
  pub level : level_of new ≡ level_of old
  pub step : Step
  pub steps : new.steps.items ≡ old.steps.items ++ step ∷ []
  pub ended : HaveEnded new.steps.items
  pub search : new.search ≡ old.search

-- one step more was logged, whose clause was learnt; the trail is that of the level to go back to, and the clause stands in the store
pub record Learns (old new : LevelSearch) : Type 0 where
  pub working : IsWorking new
  pub level : level_of new ≡ level_of old
  pub step : Step
  pub steps : new.steps.items ≡ old.steps.items ++ step ∷ []
  pub hints : List ℕ
  pub back : ℕ
  pub learnt : IsLearnt old.search (clause_of step) hints back
  pub search : new.search ≡ record { store = old.search.store ++ clause_of step ∷ []; trail = trail_at old.search.trail back }

abbrev pub Concludes : Learning → LevelSearch → LevelSearch → Type 0
Concludes Going old new = Learns old new
Concludes Ended old new = Ends old new
Concludes Spent old new = new ≡ old

-- a conflict was counted, but where the budget was spent before
abbrev pub CountsConflict : Learning → Tally → Tally → Type 0
CountsConflict Spent before after = (units before ≡ before.budget) × (after ≡ before)
CountsConflict _ before after = CountsOne Conflict before after
