use Rattle.std.proofs.Common.{◌≡◌, ◌++◌, take, map}
use Rattle.ll_rules.specs.Items.{Goal}
use Rattle.ll_items.proofs.parts.push_cases.Given as goal

abbrev pub invariant-loop-case : goal.invariant-loop-case
invariant-loop-case l = l.parts ≡ l.initial.parts ++ map (λ case. Goal case.to) (take l.case-index l.cases)
