use Rattle.std.proofs.Common.{◌≡◌, ◌-◌, ◌^◌, min, take, sum_by}
use Rattle.ll_rules.specs.Limits.{op_bits}
use Rattle.ll_rules.proofs.count.count_bits.Given as goal

abbrev pub invariant-loop-block : goal.invariant-loop-block
invariant-loop-block l = l.count ≡ min (sum_by (λ block. sum_by (λ instr. op_bits instr.op) block.body) (take l.block-index l.func.blocks)) (2 ^ 64 - 1)
