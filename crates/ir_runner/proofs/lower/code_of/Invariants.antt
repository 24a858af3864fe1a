use Rattle.std.proofs.Common.{◌≡◌, ◌++◌, map, drop}
use Rattle.ir_runner.specs.Code.{block_code}
use Rattle.ir_runner.proofs.lower.code_of.Given as goal

abbrev pub invariant-loop-at : goal.invariant-loop-at
invariant-loop-at l = l.code ++ map (block_code l.sound.func) (drop l.at l.blocks) ≡ map (block_code l.sound.func) l.blocks
