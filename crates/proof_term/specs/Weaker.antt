-- Goals that ask less, and that a proof stays valid for them.
use Rattle.std.specs.Prelude.{◌≢◌, ◌≤◌, List, All}
use Rattle.mix_system.specs.declared.literal.Term.{Term}
use Rattle.mix_system.specs.declared.literal.Lit.{Lit}
use Rattle.mix_system.specs.System.{System}
use Rattle.proof_term.specs.declared.proof.Goal.{Goal}
use Rattle.proof_term.specs.declared.proof.Goal.TheVariants.{Nothing, AtMost, Below}
use Rattle.proof_term.specs.declared.proof.Proof.{Proof}
use Rattle.proof_term.specs.declared.step.Step.{Step}
use Rattle.proof_term.specs.declared.step.Step.TheVariants.{Lemma, Theory, Enter, Leave}
use Rattle.proof_term.specs.Valid.{Valid}

-- Where the first goal is met, the second is: there is no point at all, or the cost may be as much or more.
abbrev pub IsWeaker : Goal → Goal → Type 0
IsWeaker Nothing Nothing = Unit {0}
IsWeaker Nothing (AtMost more) = Unit {0}
IsWeaker Nothing (Below term bound) = ⊥
IsWeaker (AtMost most) Nothing = ⊥
IsWeaker (AtMost most) (AtMost more) = most ≤ more
IsWeaker (AtMost most) (Below term bound) = ⊥
IsWeaker (Below term bound) goal = ⊥

-- no literal of the clause is on the term
abbrev pub IsFree : Term → List Lit → Type 0
IsFree term clause = All (λ lit. lit.term ≢ term) clause

-- the clause of the step has no literal on the term
abbrev pub StepIsFree : Term → Step → Type 0
StepIsFree cost (Lemma clause hints) = IsFree cost clause
StepIsFree cost (Theory clause tree) = IsFree cost clause
StepIsFree cost (Enter term bound) = term ≢ cost
StepIsFree cost Leave = Unit {0}

-- A valid proof is valid for each weaker goal, where no clause of the system and of the proof has a literal on the cost.
abbrev pub ValidProofsStayValid : Type 0
ValidProofsStayValid = (system : System) (cost : Term) (proof : Proof) (weaker : Goal) →
    Valid system cost proof → IsWeaker proof.goal weaker → All (IsFree cost) system.clauses → All (StepIsFree cost) proof.steps →
    Valid system cost (record proof { goal = weaker })
