-- When a level may get another goal while its steps stay.
use Rattle.std.specs.Prelude.{◌≢◌, All, IfSome}
use Rattle.mix_system.specs.declared.literal.Lit.{Lit}
use Rattle.mix_system.specs.Bounds.{Entails}
use Rattle.proof_term.specs.Weaker.{IsFree}
use Rattle.level_steps.specs.Level.{Level}
use Rattle.level_steps.specs.Plain.{IsOnVariable}

-- the goal is on a row on which no clause of the system and no cut has a literal, and says at least what the goal before said
pub record MayRaise (level : Level) (goal : Lit) : Type 0 where
  pub on_row : ¬ IsOnVariable goal.term
  pub clauses_free : All (IsFree goal.term) level.system.clauses
  pub cuts_free : IsFree goal.term level.cuts
  pub stronger : IfSome level.goal (λ before. Entails goal before)
