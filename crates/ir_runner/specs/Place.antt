-- The block at a place.
use Rattle.std.specs.Prelude.{◌≡◌, ◌<◌, ℕ, length, slice_index_or}
use Rattle.ll_tree.specs.declared.func.Func.{Func}
use Rattle.ll_tree.specs.declared.block.Block.{Block}

pub record IsAt (func : Func) (place : ℕ) (block : Block) : Type 0 where
  pub within : place < length func.blocks
  pub is : slice_index_or func.blocks place block ≡ block
