use Rattle.std.proofs.Common.{◌≡◌, ◌++◌, map, drop}
use Rattle.std.specs.Prelude.{All}
use Rattle.number_runner.specs.declared.code.NumberCase.{NumberCase}
use Rattle.number_runner.specs.Stands.{case_of}
use Rattle.number_runner.specs.Costs.{IsPriced}
use Rattle.number_runner.proofs.lower.number_cases.Given as goal

abbrev pub invariant-loop-case : goal.invariant-loop-case
invariant-loop-case g l = record {
  are : map case_of l.list ++ drop l.case-index l.cases ≡ l.cases;
  priced : All (IsPriced (g.C.PathCosts.func l.costs) (g.C.PathCosts.costs l.costs) l.from.0) (map (λ (case : NumberCase). case.jump) l.list);
}
