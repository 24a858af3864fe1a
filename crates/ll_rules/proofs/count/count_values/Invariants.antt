use Rattle.std.proofs.Common.{◌≡◌, ◌+◌, ◌-◌, ◌^◌, min, length, take, sum_by}
use Rattle.ll_rules.proofs.count.count_values.Given as goal

abbrev pub invariant-loop-block : goal.invariant-loop-block
invariant-loop-block l = l.count ≡ min (length l.func.params + sum_by (λ block. length block.phis + length block.body) (take l.block-index l.func.blocks)) (2 ^ 64 - 1)
