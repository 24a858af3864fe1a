-- The items of a function by their places.
use Rattle.std.specs.Prelude.{ℕ, List, [], map, slice_index_or}
use Rattle.ll_tree.specs.declared.block.Block.{Block}
use Rattle.ll_tree.specs.declared.block.End.TheVariants as end
use Rattle.ll_rules.specs.Items.{Item, OfEnd, items_of}

-- phis, instructions and the terminator of the block at a place
abbrev pub items_at : List Block → ℕ → List Item
items_at blocks block = slice_index_or (map items_of blocks) block []

-- the one that stands behind so many others
abbrev pub item_at : List Block → ℕ → ℕ → Item
item_at blocks block item = slice_index_or (items_at blocks block) item (OfEnd end.Unreachable)
