use Rattle.std.proofs.Common.{ap}
use Rattle.ir_runner.specs.declared.code.Jump.{Jump}
use Rattle.number_runner.specs.declared.code.NumberCase.{NumberCase}
use Rattle.number_runner.specs.Costs.{IsPriced}
use Rattle.number_runner.specs.Goes.{LeadsOut}
use Rattle.number_runner.proofs.LowerLaws.{case_more, priced_more, case_leads}
use Rattle.number_runner.proofs.lower.number_cases.Goals as goal

pub number_jump-requires-clause-out : goal.number_jump-requires-clause-out
number_jump-requires-clause-out g c =
    case_leads (LeadsOut (g.C.PathCosts.func c.args.costs.now) c.args.from.0) c.args.cases.now c.loop-case.case-index c.case-item.result c.requires.out c.loop-case-test.true c.case-item.is

pub loop-case-preserved : goal.loop-case-preserved
loop-case-preserved g c =
    let now : NumberCase = record { value = c.case-item.result.value; jump = c.in_ok-jump.jump } in
    let is = ap (λ (jump : Jump). record { value = c.case-item.result.value; jump = jump }) c.in_ok-jump.ensures.is in
    rw c.in_ok-push.ensures.ok (record {
      are = case_more c.loop-case.list c.args.cases.now c.loop-case.case-index c.case-item.result now c.loop-case.invariant.are c.loop-case-test.true c.case-item.is is;
      priced = priced_more (IsPriced (g.C.PathCosts.func c.args.costs.now) (g.C.PathCosts.costs c.args.costs.now) c.args.from.0) c.loop-case.list now c.loop-case.invariant.priced c.in_ok-jump.ensures.priced;
    })
