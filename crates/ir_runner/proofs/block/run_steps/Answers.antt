use Rattle.std.proofs.Common.{◌≡◌, ◌∙◌, sym, true, false, ap, Some}
use Rattle.ir_runs.specs.Walk.{is_one}
use Rattle.ir_runner.specs.Slots.{holds}
use Rattle.ir_runner.proofs.RunLaws.{give_can, give_after, assume_can, assume_after, after_all}
use Rattle.ir_runner.proofs.block.run_steps.Goals as goal

pub op_result-requires : goal.op_result-requires
op_result-requires c = (give_can c.args.steps.now c.loop-step.step-index _ c.loop-step.slots c.loop-step-test.true c.in-Give.op c.in-Give.to c.in-Give.is c.loop-step.invariant.can).1

pub bounds-slots-to : goal.bounds-slots-to
bounds-slots-to c = (give_can c.args.steps.now c.loop-step.step-index _ c.loop-step.slots c.loop-step-test.true c.in-Give.op c.in-Give.to c.in-Give.is c.loop-step.invariant.can).0

pub slot_value-requires : goal.slot_value-requires
slot_value-requires c = (assume_can c.args.steps.now c.loop-step.step-index _ c.loop-step.slots c.loop-step-test.true c.in-Assume.cond c.in-Assume.is c.loop-step.invariant.can).0

pub loop-step-preserved-then-is_one : goal.loop-step-preserved-then-is_one
loop-step-preserved-then-is_one c =
    let test : holds c.loop-step.slots c.in-Assume.cond ≡ true = ap (λ val. is_one (Some val)) (sym c.slot_value.ensures) ∙ sym c.is_one.ensures ∙ c.if-is_one.true in
    record {
      can = (assume_can c.args.steps.now c.loop-step.step-index _ c.loop-step.slots c.loop-step-test.true c.in-Assume.cond c.in-Assume.is c.loop-step.invariant.can).1 test;
      after = sym (assume_after c.args.steps.now c.loop-step.step-index _ c.loop-step.slots c.loop-step-test.true c.in-Assume.cond true c.in-Assume.is test) ∙ c.loop-step.invariant.after;
    }

pub returns-in-Assume : goal.returns-in-Assume
returns-in-Assume c =
    let test : holds c.loop-step.slots c.in-Assume.cond ≡ false = ap (λ val. is_one (Some val)) (sym c.slot_value.ensures) ∙ sym c.is_one.ensures ∙ c.if-is_one.false in
    sym c.loop-step.invariant.after ∙ assume_after c.args.steps.now c.loop-step.step-index _ c.loop-step.slots c.loop-step-test.true c.in-Assume.cond false c.in-Assume.is test

pub loop-step-preserved : goal.loop-step-preserved
loop-step-preserved c =
    let can = (give_can c.args.steps.now c.loop-step.step-index _ c.loop-step.slots c.loop-step-test.true c.in-Give.op c.in-Give.to c.in-Give.is c.loop-step.invariant.can).2 in
    let turn = give_after c.args.steps.now c.loop-step.step-index _ c.loop-step.slots c.loop-step-test.true c.in-Give.op c.in-Give.to c.in-Give.is in
    rw c.op_result.ensures (record { can = can; after = sym turn ∙ c.loop-step.invariant.after })

pub returns : goal.returns
returns c = sym c.loop-step.invariant.after ∙ after_all c.args.steps.now c.loop-step.step-index c.loop-step.slots c.loop-step-test.false
