use Rattle.std.proofs.Common.{take, All}
use Rattle.std.specs.Prelude.{Any}
use Rattle.mix_system.specs.Fits.{IsTrueAt}
use Rattle.mix_system.proofs.system.System.holds.Given as goal

abbrev pub invariant-loop-at : goal.invariant-loop-at
invariant-loop-at l = All (Any (IsTrueAt l.self.rows l.point)) (take l.at l.self.clauses)
