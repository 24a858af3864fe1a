use Rattle.std.proofs.Common.{◌≡◌, sym, ◌∙◌, ap}
use Rattle.ir_constants.specs.Constants.{with_operands}
use Rattle.ir_constants.specs.Counted.{entries_of}
use Rattle.ir_constants.proofs.AddLaws.{with_next}
use Rattle.ir_constants.proofs.constants.Constants.add_phis.Goals as goal

pub loop-phi-preserved : goal.loop-phi-preserved
loop-phi-preserved c =
    let now = c.in_ok-add_entries.ensures in
    let next = with_next c.args.self.now c.args.phis.now c.loop-phi.phi-index c.phi-item.result c.loop-phi-test.true (sym c.phi-item.is) entries_of in
    now ∙ ap (λ known. with_operands known (entries_of c.phi-item.result)) c.loop-phi.invariant ∙ sym next
