use Rattle.std.proofs.lemmas.Result.{IfOk-equal}
use Rattle.ll_tree.proofs.TextLaws.{written-block}
use Rattle.ll_tree.proofs.printing.block.push_block.Goals as goal

pub returns : goal.returns
returns c =
    IfOk-equal _ _ _ _ c.push_end_line.ensures (written-block c.args.block.now _ _ _ _ _ _ _ _ c.bytes.ensures c.items.ensures c.items-2.ensures c.in_ok-push_name.ensures c.in_ok-push.ensures c.in_ok-push_phis.ensures c.in_ok-push_body.ensures)
