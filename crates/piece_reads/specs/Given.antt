-- What is given before an item of a function, and spots that agree on it.
use Rattle.std.specs.Prelude.{◌≡◌, ℕ, ◌<◌, List, ◌∷◌, ◌++◌, length, map, flat_map, Contains}
use Rattle.std.specs.Option.{option_to_list}
use Rattle.std.specs.List.{range_with_len}
use Rattle.ll_tree.specs.declared.block.Block.{Block}
use Rattle.ll_rules.specs.Items.{Item, items_of}
use Rattle.ll_verifier.specs.Sound.{SoundFunc}
use Rattle.ir_runs.specs.Walk.{result_of, names_on}
use Rattle.path_encoding.specs.declared.spots.PathSpots.{PathSpots}
use Rattle.path_encoding.specs.Spots.{block_at}
use Rattle.value_pieces.specs.Pieces.{name_vars}

-- the blocks before a position in the kept order
abbrev pub blocks_before : SoundFunc → ℕ → List Block
blocks_before it at = map (block_at it) (range_with_len 0 at)

-- the names that some items give
abbrev pub results_of : List Item → List (List ℕ)
results_of items = flat_map (λ item. option_to_list (result_of item)) items

-- the names given in a block behind some of its items: the parameters', those of the blocks before, those of these items
abbrev pub given_before : SoundFunc → ℕ → List Item → List (List ℕ)
given_before it at front = names_on it.func (blocks_before it at) ++ results_of front

-- the item stands in the block at a position, right behind these
pub record StandsBehind (it : SoundFunc) (at : ℕ) (front : List Item) (item : Item) : Type 0 where
  pub within : at < length it.flow.order
  pub rest : List Item
  pub items : items_of (block_at it at) ≡ front ++ item ∷ rest

-- spots of the same edges and constants whose values agree on some names
pub record AgreeOn (it : SoundFunc) (names : List (List ℕ)) (spots other : PathSpots) : Type 0 where
  pub edges : other.edges.items ≡ spots.edges.items
  pub constants : other.constants.items ≡ spots.constants.items
  pub values : (name : List ℕ) → Contains names name → name_vars it other name ≡ name_vars it spots name
