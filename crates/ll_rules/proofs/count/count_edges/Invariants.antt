use Rattle.std.proofs.Common.{◌≡◌, ◌-◌, ◌^◌, min, take, sum_by}
use Rattle.ll_rules.specs.Items.{targets_of}
use Rattle.ll_rules.specs.Limits.{count_distinct}
use Rattle.ll_rules.proofs.count.count_edges.Given as goal

abbrev pub invariant-loop-block : goal.invariant-loop-block
invariant-loop-block l = l.count ≡ min (sum_by (λ block. count_distinct (targets_of block.end)) (take l.block-index l.func.blocks)) (2 ^ 64 - 1)
