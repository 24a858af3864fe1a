use Rattle.std.proofs.Common.{refl}
use Rattle.std.proofs.lemmas.Result.{IfOk-equal}
use Rattle.ll_tree.specs.Text.{entry_pieces}
use Rattle.ll_tree.proofs.TextLaws.{separated_from}
use Rattle.ll_tree.proofs.printing.block.push_entries.Goals as goal

pub returns-in_ok-push_entry-in-len1-up : goal.returns-in_ok-push_entry-in-len1-up
returns-in_ok-push_entry-in-len1-up c =
    IfOk-equal _ _ _ _ c.push_more_entries.ensures (separated_from (entry_pieces _) c.args.entries.now _ c.first-item.result _ _ c.in-len1-up.len_at_least refl c.first-item.is c.in_ok-push_entry-in-len1-up.ensures)
