use Rattle.ll_tree.proofs.TextLaws.{printed}
use Rattle.ll_tree.proofs.printing.func.print.Goals as goal

pub returns : goal.returns
returns c =
    printed c.args.func.now _ _ _ _ _ c.items.ensures c.new-text.ensures.items c.in_ok-push_header.ensures c.in_ok-push_blocks.ensures c.in_ok-push.ensures
