use Rattle.std.proofs.Common.{◌≡◌, ◌≤◌, ◌+◌, drop, map}
use Rattle.ll_phi_rules.specs.Phis as spec
use Rattle.ll_phi_rules.proofs.phis.entries_for.Given as goal

abbrev pub invariant-loop-entry : goal.invariant-loop-entry
invariant-loop-entry l = record {
  few : l.count ≤ l.entry-index;
  rest : l.count + spec.times l.label (map (λ entry. entry.from) (drop l.entry-index l.entries)) ≡ spec.times l.label (map (λ entry. entry.from) l.entries);
}
