use Rattle.std.proofs.Common.{◌≡◌, sym, ◌∙◌, ap}
use Rattle.ir_constants.specs.Constants.{with_operands}
use Rattle.ir_constants.specs.Counted.{counted}
use Rattle.ir_constants.proofs.AddLaws.{with_next}
use Rattle.ir_constants.proofs.constants.Constants.add_body.Goals as goal

pub loop-instr-preserved : goal.loop-instr-preserved
loop-instr-preserved c =
    let now = c.in_ok-add_op.ensures in
    let next = with_next c.args.self.now c.args.body.now c.loop-instr.instr-index c.instr-item.result c.loop-instr-test.true (sym c.instr-item.is) (λ instr. counted instr.op) in
    now ∙ ap (λ known. with_operands known (counted c.instr-item.result.op)) c.loop-instr.invariant ∙ sym next
