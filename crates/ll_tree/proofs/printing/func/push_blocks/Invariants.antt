use Rattle.std.proofs.Common.{◌≡◌, ◌++◌, take}
use Rattle.std.specs.List.{flat_map}
use Rattle.ll_tree.specs.Pieces.{written}
use Rattle.ll_tree.specs.Text.{block_pieces}
use Rattle.ll_tree.proofs.printing.func.push_blocks.Given as goal

abbrev pub invariant-loop-block : goal.invariant-loop-block
invariant-loop-block l = l.text.items ≡ l.initial.text.items ++ flat_map (λ block. written (block_pieces block)) (take l.block-index l.blocks)
