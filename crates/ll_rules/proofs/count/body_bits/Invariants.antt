use Rattle.std.proofs.Common.{◌≡◌, ◌-◌, ◌^◌, min, take, sum_by}
use Rattle.ll_rules.specs.Limits.{op_bits}
use Rattle.ll_rules.proofs.count.body_bits.Given as goal

abbrev pub invariant-loop-instr : goal.invariant-loop-instr
invariant-loop-instr l = l.count ≡ min (sum_by (λ instr. op_bits instr.op) (take l.instr-index l.body)) (2 ^ 64 - 1)
