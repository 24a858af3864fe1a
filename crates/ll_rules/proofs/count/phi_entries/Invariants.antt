use Rattle.std.proofs.Common.{◌≡◌, ◌-◌, ◌^◌, min, length, take, sum_by}
use Rattle.ll_rules.proofs.count.phi_entries.Given as goal

abbrev pub invariant-loop-phi : goal.invariant-loop-phi
invariant-loop-phi l = l.count ≡ min (sum_by (λ phi. length phi.entries) (take l.phi-index l.phis)) (2 ^ 64 - 1)
