use Rattle.std.proofs.Common.{take, All}
use Rattle.mix_system.specs.Fits.{IsTrueAt}
use Rattle.mix_system.proofs.system.System.has_true_literal.Given as goal

abbrev pub invariant-loop-lit : goal.invariant-loop-lit
invariant-loop-lit l = All (λ lit. ¬ IsTrueAt l.self.rows l.point lit) (take l.lit-index l.clause)
