-- What is known of a solver between two calls of a script.
use Rattle.mix_system.specs.Calm.{IsCalm}
use Rattle.mixed_solver.specs.declared.mixed.Mixed.{Mixed}
use Rattle.mixed_solver.specs.Mixed.{IsMixed, IsAtGround}
use Rattle.mixed_rows.specs.declared.run.Run.{Run}
use Rattle.mixed_rows.specs.declared.run.Standing.{Standing}
use Rattle.mixed_rows.specs.declared.run.Standing.TheVariants.{Ground, Spent, Ended}

abbrev pub Knows : Standing → Mixed → Type 0
Knows Ground it = IsAtGround it
Knows Spent it = IsMixed it
Knows Ended it = Unit {0}

-- the system is calm, and the solver is as the last call has left it
pub record IsKnown (run : Run) : Type 0 where
  pub calm : IsCalm run.mixed.level.system.now
  pub knows : Knows run.standing run.mixed
