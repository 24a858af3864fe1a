use Rattle.std.proofs.Common.{◌≡◌, ◌++◌, map, drop}
use Rattle.ll_flow.specs.Paths.{label_of}
use Rattle.ir_runner.specs.Code.{move_code, phis_at}
use Rattle.ir_runner.proofs.lower.jump_code.Given as goal

abbrev pub invariant-loop-phi : goal.invariant-loop-phi
invariant-loop-phi l =
    l.moves ++ map (move_code l.sound.func (label_of l.sound.func l.from.0)) (drop l.phi (phis_at l.sound.func l.to.0))
    ≡ map (move_code l.sound.func (label_of l.sound.func l.from.0)) (phis_at l.sound.func l.to.0)
