use Rattle.std.proofs.Common.{◌≡◌, drop}
use Rattle.ll_phi_rules.specs.Phis as spec
use Rattle.ll_phi_rules.proofs.phis.all_agree.Given as goal

abbrev pub invariant-loop-at : goal.invariant-loop-at
invariant-loop-at l = spec.all_agree (drop l.at l.entries) ≡ spec.all_agree l.entries
