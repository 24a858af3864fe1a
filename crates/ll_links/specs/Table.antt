-- The numbers of all items of a function.
use Rattle.std.specs.Prelude.{◌≡◌, ◌+◌, ◌<◌, ℕ, List, [], ◌∷◌, length, map, slice_index_or, Option, Some, None}
use Rattle.ll_tree.specs.declared.block.Block.{Block}
use Rattle.ll_items.specs.Sites.{sites_in}
use Rattle.ll_links.specs.declared.link.ValueId.{ValueId}
use Rattle.ll_links.specs.declared.link.BlockId.{BlockId}
use Rattle.ll_links.specs.declared.link.Source.{Source}
use Rattle.ll_links.specs.declared.link.Links.{Links}
use Rattle.ll_links.specs.declared.table.LinkTable.TheInside.{Inside}
use Rattle.ll_links.specs.Links.{source_of, block_of, operands_of, goals_of, result_of}

-- For each item in the order of the text what it names and gives, and how many items stand before those of each block.
pub record LinkLists : Type 0 where
  pub sources : List (List Source)
  pub blocks : List (List BlockId)
  pub results : List (Option ValueId)
  pub starts : List ℕ

abbrev pub lists_of : Inside → LinkLists
lists_of it = record { sources = it.sources.0; blocks = it.blocks.0; results = it.results.items; starts = it.starts.items }

-- phis, instructions and the terminator
abbrev pub count_in : Block → ℕ
count_in block = length block.phis + length block.body + 1

abbrev pub count_items : List Block → ℕ
count_items [] = 0
count_items (block ∷ blocks) = count_in block + count_items blocks

-- how many items stand before those of each block, of which so many stand before the first
abbrev pub starts_from : ℕ → List Block → List ℕ
starts_from start [] = []
starts_from start (block ∷ blocks) = start ∷ starts_from (start + count_in block) blocks

-- Each operand, label and result of each item has its number.
pub record AreWhole (values : List (List ℕ × ℕ)) (labels : List (List ℕ)) (blocks : List Block) (it : LinkLists) : Type 0 where
  pub sources : map (λ list. map Some list) it.sources ≡ map (λ site. map (source_of values) (operands_of site.what)) (sites_in 0 blocks)
  pub goals : map (λ list. map Some list) it.blocks ≡ map (λ site. map (block_of labels) (goals_of site.what)) (sites_in 0 blocks)
  pub results : it.results ≡ map (λ site. result_of values site.what) (sites_in 0 blocks)
  pub starts : it.starts ≡ starts_from 0 blocks

-- the place of an item among all
abbrev pub place_in : LinkLists → ℕ → ℕ → ℕ
place_in it block item = slice_index_or it.starts block 0 + item

pub record HasItem (it : LinkLists) (block item : ℕ) : Type 0 where
  pub starts : block < length it.starts
  pub sources : place_in it block item < length it.sources
  pub blocks : place_in it block item < length it.blocks
  pub results : place_in it block item < length it.results

pub record IsItem (it : LinkLists) (block item : ℕ) (links : Links) : Type 0 where
  pub sources : links.sources.now ≡ slice_index_or it.sources (place_in it block item) []
  pub blocks : links.blocks.now ≡ slice_index_or it.blocks (place_in it block item) []
  pub result : links.result ≡ slice_index_or it.results (place_in it block item) None
