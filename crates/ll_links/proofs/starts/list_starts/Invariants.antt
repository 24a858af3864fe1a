use Rattle.std.proofs.Common.{◌≡◌, ◌+◌, ◌++◌, drop}
use Rattle.ll_links.specs.Table.{count_items, starts_from}
use Rattle.ll_links.proofs.starts.list_starts.Given as goal

abbrev pub invariant-loop-block : goal.invariant-loop-block
invariant-loop-block l = record {
  made : l.starts.items ++ starts_from l.start (drop l.block-index l.blocks) ≡ starts_from 0 l.blocks;
  left : l.start + count_items (drop l.block-index l.blocks) ≡ count_items l.blocks;
}
