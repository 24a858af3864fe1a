use Rattle.std.proofs.Common.{◌≡◌, ◌+◌, length, take}
use Rattle.std.specs.Prelude.{sum_by}
use Rattle.ir_runner.proofs.LowerLaws.{items_in}
use Rattle.ir_runner.proofs.runner.count_values.Given as goal

abbrev pub invariant-loop-block : goal.invariant-loop-block
invariant-loop-block l = l.count ≡ length l.func.params + sum_by items_in (take l.block-index l.blocks)
