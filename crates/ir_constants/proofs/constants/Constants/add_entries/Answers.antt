use Rattle.std.proofs.Common.{◌≡◌, ◌<◌, length, get_or, sym, ◌∙◌, ap, subst}
use Rattle.ir_constants.specs.Constants.{with_operand}
use Rattle.ir_constants.proofs.AddLaws.{with_next_one}
use Rattle.ir_constants.proofs.constants.Constants.add_entries.Goals as goal

pub loop-entry-preserved : goal.loop-entry-preserved
loop-entry-preserved c =
    let at = c.loop-entry.entry-index in
    let entry = c.entry-item.result in
    let items = c.items-entry-items.ensures in
    let within = subst (λ list. at < length list) items c.loop-entry-test.true in
    let there = subst (λ list. get_or list at entry ≡ entry) items (sym c.entry-item.is) in
    let next = with_next_one c.args.self.now c.args.phi.now.entries at entry within there (λ entry. entry.value) in
    c.in_ok-add.ensures ∙ ap (λ known. with_operand known entry.value) c.loop-entry.invariant ∙ sym next
