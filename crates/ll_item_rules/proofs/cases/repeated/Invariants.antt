use Rattle.std.proofs.Common.{◌≡◌, take, drop, map}
use Rattle.ll_item_rules.specs.Cases as spec
use Rattle.ll_item_rules.proofs.cases.repeated.Given as goal

abbrev pub invariant-loop-case : goal.invariant-loop-case
invariant-loop-case l = record {
  seen : l.seen.keys ≡ map (λ case. case.value) (take l.case-index l.cases);
  rest : spec.repeated_after (map (λ case. case.value) (take l.case-index l.cases)) (map (λ case. case.value) (drop l.case-index l.cases)) ≡ spec.repeated (map (λ case. case.value) l.cases);
}
