-- What is said of proofs that aren't finished.
use Rattle.std.specs.Prelude.{◌≡◌, suc, ℤ, ◌≤ℤ◌, List, [], ◌∷◌, ◌++◌, length, Contains, Any, true, false}
use Rattle.mix_system.specs.declared.literal.Term.{Term}
use Rattle.mix_system.specs.System.{System}
use Rattle.mix_system.specs.Fits.{Fits, term_value}
use Rattle.proof_term.specs.declared.find.Find.{Find}
use Rattle.proof_term.specs.declared.open_tree.OpenNode.TheVariants.{Pending}
use Rattle.proof_term.specs.declared.open_tree.OpenTree.{OpenTree}
use Rattle.proof_term.specs.declared.partial.PartLevel.{PartLevel}
use Rattle.proof_term.specs.declared.partial.Partial.{Partial}
use Rattle.proof_term.specs.declared.proof.Goal.{Goal}
use Rattle.proof_term.specs.declared.proof.Goal.TheVariants.{Nothing, AtMost, Below}
use Rattle.proof_term.specs.declared.step.Step.{Step}
use Rattle.proof_term.specs.declared.step.Step.TheVariants.{Enter, Leave}
use Rattle.proof_term.specs.Valid.{IsOutermost, has_ended, after}
use Rattle.proof_term.specs.Partial.{Run, run_start, run_to, run_after, StandsLocally, PartialValid}

-- a proof of one level without a step, on which no tree is begun
abbrev pub unbegun : Goal → Partial
unbegun goal = record { levels = record { goal = goal; steps = [] } ∷ []; pending = record { nodes = Pending ∷ [] } }

-- nothing done is valid so far, also over a system whose own bounds contradict each other
abbrev pub NothingIsValid : Type 0
NothingIsValid = (system : System) (cost : Term) (portions : List Term) (goal : Goal) →
    IsOutermost goal → PartialValid system cost portions (unbegun goal) []

-- at every point that fits, the term of each cut among the steps is at most its bound, whatever the goals around it
abbrev pub PartialCutsAreBounds : Type 0
PartialCutsAreBounds = (system : System) (cost : Term) (portions : List Term) (partial : Partial) (finds : List Find) (point : List ℤ) (term : Term) (bound : ℤ) →
    PartialValid system cost portions partial finds → Fits system point → Any (λ level. Contains level.steps (Enter term bound)) partial.levels →
    term_value system.rows point term ≤ℤ bound

-- after all steps of some levels, each opened within the one before
abbrev pub run_opened : Run → Goal → Run
run_opened run Nothing = run
run_opened run (AtMost most) = run
run_opened run (Below term bound) = run_after run (Enter term bound)

abbrev pub run_on : Run → List PartLevel → Run
run_on run [] = run
run_on run (level ∷ levels) = run_on (run_to (run_opened run level.goal) level.steps) levels

abbrev pub run_of : System → List PartLevel → Run
run_of system [] = run_start system Nothing
run_of system (first ∷ levels) = run_on (run_to (run_start system first.goal) first.steps) levels

-- the steps of a level, behind which a step is put where no level stands within
abbrev pub steps_with : List Step → List PartLevel → Step → List Step
steps_with steps [] step = steps ++ step ∷ []
steps_with steps (level ∷ levels) step = steps

-- levels with one more step on the last
abbrev pub levels_with : List PartLevel → Step → List PartLevel
levels_with [] step = []
levels_with (level ∷ levels) step = (record level { steps = steps_with level.steps levels step }) ∷ levels_with levels step

abbrev pub with_step_more : Partial → Step → Partial
with_step_more partial step = record { levels = levels_with partial.levels step; pending = record { nodes = Pending ∷ [] } }

-- A step that stands behind those of the last level keeps the proof valid so far, with no tree begun, where as many levels are open behind it as before and it isn't the last one's end.
abbrev pub OneMoreStepIsValid : Type 0
OneMoreStepIsValid = (system : System) (cost : Term) (portions : List Term) (partial : Partial) (step : Step) (finds : List Find) →
    PartialValid system cost portions partial finds → StandsLocally system cost portions (length finds) (run_of system partial.levels) step →
    suc (length (after (run_of system partial.levels).at step).levels.enclosing) ≡ length partial.levels → has_ended (after (run_of system partial.levels).at step) ≡ false →
    PartialValid system cost portions (with_step_more partial step) finds

-- the steps of a level behind which a cut was closed: what opens its level, the inner steps, the empty clause, and its end
abbrev pub closed_steps : List Step → Term → ℤ → List Step → Step → List Step
closed_steps outer term bound inner last = outer ++ (Enter term bound ∷ (inner ++ (last ∷ Leave ∷ [])))

-- two open levels, and the first alone after the second was closed
abbrev pub two_levels : Goal → List Step → Term → ℤ → List Step → List PartLevel
two_levels goal outer term bound inner = (record { goal = goal; steps = outer }) ∷ (record { goal = Below term bound; steps = inner }) ∷ []

-- Where a step that stands behind those of a cut's level ends it with the empty clause, the cut stands behind the steps of the first level.
abbrev pub ClosedLevelIsValid : Type 0
ClosedLevelIsValid = (system : System) (cost : Term) (portions : List Term) (goal : Goal) (outer inner : List Step) (term : Term) (bound : ℤ) (pending : OpenTree) (last : Step) (finds : List Find) →
    PartialValid system cost portions (record { levels = two_levels goal outer term bound inner; pending = pending }) finds →
    StandsLocally system cost portions (length finds) (run_of system (two_levels goal outer term bound inner)) last →
    length (after (run_of system (two_levels goal outer term bound inner)).at last).levels.enclosing ≡ 1 → has_ended (after (run_of system (two_levels goal outer term bound inner)).at last) ≡ true →
    PartialValid system cost portions (record { levels = record { goal = goal; steps = closed_steps outer term bound inner last } ∷ []; pending = record { nodes = Pending ∷ [] } }) finds
