use Rattle.std.proofs.Common.{◌∙◌, sym}
use Rattle.ir_runner.proofs.RunLaws.{move_can, move_after, moved_all}
use Rattle.ir_runner.proofs.block.run_moves.Goals as goal

pub slot_value-requires : goal.slot_value-requires
slot_value-requires c = (move_can c.args.moves.now c.loop-step.step-index _ c.loop-step.slots c.loop-step-test.true c.loop-step.invariant.can).1

pub bounds-slots-step : goal.bounds-slots-step
bounds-slots-step c = (move_can c.args.moves.now c.loop-step.step-index _ c.loop-step.slots c.loop-step-test.true c.loop-step.invariant.can).0

pub loop-step-preserved : goal.loop-step-preserved
loop-step-preserved c =
    let can = (move_can c.args.moves.now c.loop-step.step-index _ c.loop-step.slots c.loop-step-test.true c.loop-step.invariant.can).2 in
    let turn = move_after c.args.moves.now c.loop-step.step-index _ c.loop-step.slots c.loop-step-test.true in
    rw c.slot_value.ensures (record { can = can; after = sym turn ∙ c.loop-step.invariant.after })

pub returns : goal.returns
returns c = sym (moved_all c.args.moves.now c.loop-step.step-index c.loop-step.slots c.loop-step-test.false) ∙ c.loop-step.invariant.after
