use Rattle.std.proofs.Common.{◌≡◌, ◌≤◌, ◌+◌, drop, map}
use Rattle.ll_phi_rules.specs.Phis as spec
use Rattle.ll_phi_rules.proofs.phis.cases_at.Given as goal

abbrev pub invariant-loop-case : goal.invariant-loop-case
invariant-loop-case l = record {
  few : l.count ≤ l.case-index;
  rest : l.count + spec.times l.label (map (λ case. case.to) (drop l.case-index l.cases)) ≡ spec.times l.label (map (λ case. case.to) l.cases);
}
