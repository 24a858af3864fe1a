use Rattle.std.proofs.Common.{◌≡◌, ◌-◌, ◌^◌, min, take, sum_by}
use Rattle.ll_rules.specs.Limits.{end_cases}
use Rattle.ll_rules.proofs.count.count_cases.Given as goal

abbrev pub invariant-loop-block : goal.invariant-loop-block
invariant-loop-block l = l.count ≡ min (sum_by (λ block. end_cases block.end) (take l.block-index l.func.blocks)) (2 ^ 64 - 1)
