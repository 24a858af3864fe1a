use Rattle.std.proofs.Common.{rules}
use Rattle.std.proofs.lemmas.Result.{IfOk-equal}
use Rattle.ll_tree.proofs.TextLaws.{texts}
use Rattle.ll_tree.proofs.printing.block.push_switch.Goals as goal

pub returns : goal.returns
returns c = search (rules, IfOk-equal, texts)
