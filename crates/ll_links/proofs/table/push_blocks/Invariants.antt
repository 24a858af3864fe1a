use Rattle.std.proofs.Common.{◌≡◌, ◌++◌, drop, map}
use Rattle.std.specs.List.{filter_map}
use Rattle.ll_items.specs.Parts.{part_of}
use Rattle.ll_links.specs.Links.{block_in}
use Rattle.ll_links.proofs.table.push_blocks.Given as goal

abbrev pub invariant-loop-part : goal.invariant-loop-part
invariant-loop-part l = record {
  closed : l.lists.0 ≡ l.initial.lists.0;
  open_list : l.lists.1 ++ filter_map (block_in l.labels) (map part_of (drop l.part-index l.parts)) ≡ l.initial.lists.1 ++ filter_map (block_in l.labels) (map part_of l.parts);
}
