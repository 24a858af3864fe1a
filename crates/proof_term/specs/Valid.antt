-- When the steps of a proof are valid for its goal.
use Rattle.std.specs.Prelude.{◌≡◌, ℕ, ◌+◌, ◌<◌, List, [], ◌∷◌, length, Bool, true, false, ℤ}
use Rattle.mix_system.specs.declared.literal.Term.{Term}
use Rattle.mix_system.specs.declared.literal.Lit.{Lit}
use Rattle.mix_system.specs.System.{System}
use Rattle.proof_term.specs.Levels.{Finished, Level, Levels, known, box_of, cut_clause}
use Rattle.proof_term.specs.Steps.{Passes}
use Rattle.proof_term.specs.declared.proof.Goal.{Goal}
use Rattle.proof_term.specs.declared.proof.Goal.TheVariants.{Nothing, AtMost, Below}
use Rattle.proof_term.specs.declared.proof.Proof.{Proof}
use Rattle.proof_term.specs.declared.step.Step.{Step}
use Rattle.proof_term.specs.declared.step.Step.TheVariants.{Lemma, Theory, Enter, Leave}
use Rattle.proof_term.specs.declared.step.TheConstants.{MOST_NESTED}

-- how far a proof was read: the number of the next step that ends, and the open levels
pub record Stage : Type 0 where
  pub next : ℕ
  pub levels : Levels

-- before the first step of a proof with that goal
abbrev pub at_start : System → Goal → Stage
at_start system goal = record { next = length system.clauses; levels = record { last = record { goal = goal; finished = [] }; enclosing = [] } }

abbrev pub is_empty : List Lit → Bool
is_empty [] = true
is_empty (lit ∷ lits) = false

-- the newest of the ended steps is the empty clause
abbrev pub ends_empty : List Finished → Bool
ends_empty [] = false
ends_empty (f ∷ fs) = is_empty f.clause

-- the last level's last step is the empty clause
abbrev pub has_ended : Stage → Bool
has_ended at = ends_empty at.levels.last.finished

-- a level after one more step has ended on it
abbrev pub with_step : ℕ → List Lit → Bool → Level → Level
with_step number clause is_cut level = record level { finished = record { number = number; clause = clause; is_cut = is_cut } ∷ level.finished }

-- after a lemma or a theory with that clause
abbrev pub after_clause : Stage → List Lit → Stage
after_clause at clause = record { next = at.next + 1; levels = record { last = with_step at.next clause false at.levels.last; enclosing = at.levels.enclosing } }

-- after a level was opened for a cut
abbrev pub after_enter : Stage → Term → ℤ → Stage
after_enter at term bound = record { next = at.next; levels = record { last = record { goal = Below term bound; finished = [] }; enclosing = at.levels.last ∷ at.levels.enclosing } }

-- after the last of these levels was closed, where one encloses it: the cut ends on that one
abbrev pub closed : ℕ → Level → List Level → Stage
closed next last [] = record { next = next; levels = record { last = last; enclosing = [] } }
closed next last (outer ∷ enclosing) = record { next = next + 1; levels = record { last = with_step next (cut_clause last.goal) true outer; enclosing = enclosing } }

abbrev pub after : Stage → Step → Stage
after at (Lemma clause hints) = after_clause at clause
after at (Theory clause tree) = after_clause at clause
after at (Enter term bound) = after_enter at term bound
after at Leave = closed at.next at.levels.last at.levels.enclosing

-- No step stands after the empty clause of its level but the level's end, and few levels stand open at once.
abbrev pub MayStand : Stage → Step → Type 0
MayStand at (Lemma clause hints) = has_ended at ≡ false
MayStand at (Theory clause tree) = has_ended at ≡ false
MayStand at (Enter term bound) = (has_ended at ≡ false) × (length at.levels.enclosing < MOST_NESTED)
MayStand at Leave = (has_ended at ≡ true) × (0 < length at.levels.enclosing)

-- a step is valid after those before it
pub record Takes (system : System) (cost : Term) (at : Stage) (step : Step) : Type 0 where
  pub place : MayStand at step
  pub passes : Passes system (box_of system cost at.levels) (known system at.levels) step

-- only the first level is open, and it ended with the empty clause
pub record IsWhole (at : Stage) : Type 0 where
  pub ended : has_ended at ≡ true
  pub outermost : at.levels.enclosing ≡ []

-- each of the steps is valid after those before it, and they come to the end of the first level
abbrev pub ValidFrom : System → Term → Stage → List Step → Type 0
ValidFrom system cost at [] = IsWhole at
ValidFrom system cost at (step ∷ steps) = Takes system cost at step × ValidFrom system cost (after at step) steps

-- no level of a cut has this goal
abbrev pub IsOutermost : Goal → Type 0
IsOutermost Nothing = Unit {0}
IsOutermost (AtMost most) = Unit {0}
IsOutermost (Below term bound) = ⊥

-- a proof is valid over a system with that cost, whatever its shape
pub record Valid (system : System) (cost : Term) (proof : Proof) : Type 0 where
  pub goal : IsOutermost proof.goal
  pub steps : ValidFrom system cost (at_start system proof.goal) proof.steps
