use Rattle.std.proofs.Common.{◌≡◌, ◌+◌, ◌≤◌, map, drop}
use Rattle.ll_rules.specs.Limits.{count_distinct}
use Rattle.ll_rules.proofs.count.case_edges.Given as goal

abbrev pub invariant-loop-at : goal.invariant-loop-at
invariant-loop-at l = record {
  few : l.count ≤ l.at;
  rest : l.count + count_distinct (map (λ case. case.to) (drop l.at l.cases)) ≡ count_distinct (map (λ case. case.to) l.cases);
}
