-- Valid steps go on by a valid one.
use Rattle.std.proofs.Common.{◌≡◌, ℕ, ◌+◌, ◌<◌, List, [], ◌∷◌, ◌++◌, length, take, get_or, refl, sym, subst, ⊎_elim, arith}
use Rattle.std.specs.List.{HoldsAt}
use Rattle.std.proofs.lemmas.Bool.{cases_lt}
use Rattle.std.proofs.lemmas.List.{get_or_append_left, get_or_push, take-append-le, take_at, length_push}
use Rattle.proof_term.specs.declared.step.Step.{Step}
use Rattle.level_steps.specs.Level.{Level}
use Rattle.level_steps.specs.Steps.{IsStepOn, AreSteps}

-- what is behind some steps and what stands there are the same
same_place : (level : Level) (before other : List Step) (step same : Step) → before ≡ other → step ≡ same → IsStepOn level before step → IsStepOn level other same
same_place level before other step same is too on =
    subst (λ (s : Step). IsStepOn level other s) too (subst (λ (b : List Step). IsStepOn level b step) is on)

pub steps_go_on : (level : Level) (steps : List Step) (step : Step) → AreSteps level steps → IsStepOn level steps step → AreSteps level (steps ++ step ∷ [])
steps_go_on level steps step valid on at within d =
    ⊎_elim
    (λ below. same_place level (take at steps) (take at (steps ++ step ∷ [])) (get_or steps at d) (get_or (steps ++ step ∷ []) at d)
    (sym (take-append-le at steps (step ∷ []) (omega arith)))
    (sym (get_or_append_left steps (step ∷ []) d at below)) (valid at below d))
    (λ past. let last : length steps ≡ at = omega (arith, length_push steps step) in
    same_place level steps (take at (steps ++ step ∷ [])) step (get_or (steps ++ step ∷ []) at d)
    (sym (take_at steps (step ∷ []) at last))
    (sym (get_or_push steps step d at last)) on)
    (cases_lt at (length steps))
