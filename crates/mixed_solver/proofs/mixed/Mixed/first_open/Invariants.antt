use Rattle.std.proofs.Common.{take, All}
use Rattle.mix_system.specs.Bounds.{IsFalseIn}
use Rattle.bound_trail.specs.Trail.{box}
use Rattle.mixed_solver.proofs.mixed.Mixed.first_open.Given as goal

abbrev pub invariant-loop-lit : goal.invariant-loop-lit
invariant-loop-lit l = All (IsFalseIn (box l.self.level.search.trail)) (take l.lit-index l.clause)
