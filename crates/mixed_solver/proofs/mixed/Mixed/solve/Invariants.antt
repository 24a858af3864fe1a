use Rattle.std.proofs.Common.{◌-◌}
use Rattle.mix_system.specs.Tally.{units}
use Rattle.mixed_solver.proofs.MixedLaws.{HasTurned}
use Rattle.mixed_solver.proofs.mixed.Mixed.solve.Given as goal

abbrev pub invariant-loop-point : goal.invariant-loop-point
invariant-loop-point l = HasTurned l.initial.self l.self l.initial.tally l.tally

abbrev pub decreases-loop-point : goal.decreases-loop-point
decreases-loop-point l = l.tally.budget - units l.tally
