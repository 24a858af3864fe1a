use Rattle.std.proofs.Common.{◌≡◌, take, map}
use Rattle.ll_items.proofs.names.list_labels.Given as goal

abbrev pub invariant-loop-block : goal.invariant-loop-block
invariant-loop-block l = l.list ≡ map (λ block. block.label) (take l.block-index l.func.blocks)
