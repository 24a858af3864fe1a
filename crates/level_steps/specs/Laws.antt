-- What valid steps of a level say, and what keeps them valid.
use Rattle.std.specs.Prelude.{ℤ, pos, ◌+ℤ◌, List, [], ◌∷◌, ◌++◌, All, Option, Some, None}
use Rattle.mix_system.specs.declared.literal.Term.{Term}
use Rattle.mix_system.specs.declared.literal.Side.TheVariants.{Ge}
use Rattle.mix_system.specs.declared.literal.Lit.{Lit}
use Rattle.mix_system.specs.System.{System}
use Rattle.proof_term.specs.declared.proof.Goal.{Goal}
use Rattle.proof_term.specs.declared.proof.Goal.TheVariants.{Nothing, AtMost, Below}
use Rattle.proof_term.specs.declared.proof.Proof.{Proof}
use Rattle.proof_term.specs.declared.step.Step.{Step}
use Rattle.proof_term.specs.Valid.{Valid, IsOutermost}
use Rattle.level_steps.specs.Level.{Level, Meets}
use Rattle.level_steps.specs.Steps.{IsStepOn, AreSteps, HaveEnded}
use Rattle.level_steps.specs.Plain.{IsPlain}
use Rattle.level_steps.specs.Raised.{MayRaise}

-- where valid steps have ended, no point meets the level
abbrev pub EndedLevelsHaveNoPoint : Type 0
EndedLevelsHaveNoPoint = (level : Level) (steps : List Step) (point : List ℤ) →
    AreSteps level steps → HaveEnded steps → Meets level point → ⊥

-- a valid step may be put behind valid steps
abbrev pub StepsGoOn : Type 0
StepsGoOn = (level : Level) (steps : List Step) (step : Step) →
    AreSteps level steps → IsStepOn level steps step → AreSteps level (steps ++ step ∷ [])

-- plain steps that are valid stay valid under a goal that says more
abbrev pub StepsStayValid : Type 0
StepsStayValid = (level : Level) (steps : List Step) (goal : Lit) →
    AreSteps level steps → All (IsPlain level.system) steps → MayRaise level goal → AreSteps (record level { goal = Some goal }) steps

-- the literal that says that a proof's goal isn't met
abbrev pub goal_literal : Term → Goal → Option Lit
goal_literal cost Nothing = None
goal_literal cost (AtMost most) = Some (record { term = cost; side = Ge; bound = pos most +ℤ pos 1 })
goal_literal cost (Below term bound) = Some (record { term = term; side = Ge; bound = bound +ℤ pos 1 })

-- the first level of a proof, before any cut
abbrev pub first_level : System → Term → Goal → Level
first_level system cost goal = record { system = system; cuts = []; goal = goal_literal cost goal }

-- valid steps of the first level that have ended are a valid proof
abbrev pub EndedLevelsAreProofs : Type 0
EndedLevelsAreProofs = (system : System) (cost : Term) (proof : Proof) →
    IsOutermost proof.goal → AreSteps (first_level system cost proof.goal) proof.steps → HaveEnded proof.steps → Valid system cost proof
