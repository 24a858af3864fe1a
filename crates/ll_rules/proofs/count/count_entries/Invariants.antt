use Rattle.std.proofs.Common.{◌≡◌, ◌-◌, ◌^◌, min, length, take, sum_by}
use Rattle.ll_rules.proofs.count.count_entries.Given as goal

abbrev pub invariant-loop-block : goal.invariant-loop-block
invariant-loop-block l = l.count ≡ min (sum_by (λ block. sum_by (λ phi. length phi.entries) block.phis) (take l.block-index l.func.blocks)) (2 ^ 64 - 1)
