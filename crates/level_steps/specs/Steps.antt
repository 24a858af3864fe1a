-- When the steps of a level are valid, and when they have ended.
use Rattle.std.specs.Prelude.{◌≡◌, ◌≢◌, ℕ, ◌<◌, List, [], ◌∷◌, ◌++◌, length, take, All}
use Rattle.std.specs.List.{HoldsAt}
use Rattle.proof_term.specs.declared.step.Step.{Step}
use Rattle.proof_term.specs.declared.step.Step.TheVariants.{Lemma, Theory, Enter, Leave}
use Rattle.proof_term.specs.Steps.{Passes}
use Rattle.level_steps.specs.Level.{Level, clause_of, known, box_of}

-- a step that shows a clause on the level itself
abbrev pub ShowsClause : Step → Type 0
ShowsClause (Lemma clause hints) = Unit {0}
ShowsClause (Theory clause tree) = Unit {0}
ShowsClause (Enter term bound) = ⊥
ShowsClause Leave = ⊥

-- a step is valid on a level behind others
pub record IsStepOn (level : Level) (before : List Step) (step : Step) : Type 0 where
  pub kind : ShowsClause step
  pub passes : Passes level.system (box_of level before) (known level before) step

-- each step is valid behind those before it
abbrev pub AreSteps : Level → List Step → Type 0
AreSteps level steps = (at : ℕ) → at < length steps → HoldsAt (IsStepOn level (take at steps)) steps at

-- no step is the empty clause
abbrev pub AreOpen : List Step → Type 0
AreOpen steps = All (λ step. clause_of step ≢ []) steps

-- the last step is the empty clause, and no other one is
pub record HaveEnded (steps : List Step) : Type 0 where
  pub before : List Step
  pub last : Step
  pub split : steps ≡ before ++ last ∷ []
  pub others : AreOpen before
  pub empty : clause_of last ≡ []
