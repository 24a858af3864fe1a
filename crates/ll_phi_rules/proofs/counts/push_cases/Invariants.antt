use Rattle.std.proofs.Common.{◌≡◌, ◌++◌, take, map}
use Rattle.ll_phi_rules.proofs.counts.push_cases.Given as goal

abbrev pub invariant-loop-case : goal.invariant-loop-case
invariant-loop-case l = l.list ≡ l.initial.list ++ map (λ case. case.to) (take l.case-index l.cases)
