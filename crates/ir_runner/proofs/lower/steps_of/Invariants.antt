use Rattle.std.proofs.Common.{◌≡◌, ◌++◌, map, drop}
use Rattle.ir_runner.specs.Code.{step_code}
use Rattle.ir_runner.proofs.lower.steps_of.Given as goal

abbrev pub invariant-loop-item : goal.invariant-loop-item
invariant-loop-item l = l.steps ++ map (step_code l.sound.func) (drop l.item l.body) ≡ map (step_code l.sound.func) l.body
