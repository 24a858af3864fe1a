-- Where an item of a block stands among all items.
use Rattle.std.proofs.Common.{◌≡◌, ◌<◌, ◌+◌, ℕ, zero, suc, List, [], ◌∷◌, ◌++◌, length, get_or, map, Option, Some, None, refl, sym, ◌∙◌, ap, arith}
use Rattle.std.proofs.lemmas.List.{length-append, length-map, get_or-map, get_or_append_left, get_or-append-add}
use Rattle.ll_tree.specs.declared.block.Block.{Block}
use Rattle.ll_tree.specs.declared.block.End.TheVariants as end
use Rattle.ll_rules.specs.Items.{Item, OfPhi, OfInstr, OfEnd, items_of}
use Rattle.ll_items.specs.Sites.{Site, sites_from, sites_in}
use Rattle.ll_links.specs.declared.link.ValueId.{ValueId}
use Rattle.ll_links.specs.declared.link.BlockId.{BlockId}
use Rattle.ll_links.specs.declared.link.Source.{Source}
use Rattle.ll_links.specs.declared.link.Links.{Links}
use Rattle.ll_links.specs.Links as spec
use Rattle.ll_links.specs.Items.{items_at, item_at}
use Rattle.ll_links.specs.Table.{LinkLists, AreWhole, HasItem, IsItem, place_in, count_in, starts_from}

-- ---- items of one block

abbrev no_item : Item
no_item = OfEnd end.Unreachable

from_length : (block before : ℕ) (items : List Item) → length (sites_from block before items) ≡ length items
from_length block before [] = refl
from_length block before (item ∷ items) = ap suc (from_length block (before + 1) items)

from_at : (block before item : ℕ) (items : List Item) (default : Site) → item < length items → (get_or (sites_from block before items) item default).what ≡ get_or items item no_item
from_at block before item [] default within = absurd (omega (arith, within))
from_at block before zero (first ∷ items) default within = refl
from_at block before (suc item) (first ∷ items) default within = from_at block (before + 1) item items default (omega (arith, within))

block_length : (block : Block) → length (items_of block) ≡ count_in block
block_length block =
    let all = length-append (map OfPhi block.phis) (map OfInstr block.body ++ OfEnd block.end ∷ []) in
    let rest = length-append (map OfInstr block.body) (OfEnd block.end ∷ []) in
    let phis = length-map {B = Item} block.phis OfPhi in
    let body = length-map {B = Item} block.body OfInstr in
    omega (arith, all, rest, phis, body)

-- ---- items of all blocks

-- an item's place among all, of which so many stand before the first block
record StandsAt (before start : ℕ) (blocks : List Block) (block item : ℕ) (default : Site) : Type 0 where
  place : ℕ
  from : get_or (starts_from start blocks) block 0 ≡ start + place
  within : place + item < length (sites_in before blocks)
  what : (get_or (sites_in before blocks) (place + item) default).what ≡ get_or (get_or (map items_of blocks) block []) item no_item

none_before : (item : ℕ) → 0 + item ≡ item
none_before item = omega arith

stands_at : (before start : ℕ) (blocks : List Block) (block item : ℕ) (default : Site) → item < length (get_or (map items_of blocks) block []) → StandsAt before start blocks block item default
stands_at before start [] block item default within = absurd (omega (arith, within))
stands_at before start (first ∷ blocks) zero item default within =
    let size = from_length before 0 (items_of first) in
    let all = length-append (sites_from before 0 (items_of first)) (sites_in (before + 1) blocks) in
    record {
      place = 0;
      from = omega arith;
      within = omega (arith, size, all, within);
      what =
          ap (λ (n : ℕ). (get_or (sites_in before (first ∷ blocks)) n default).what) (none_before item)
          ∙ ap (λ (site : Site). site.what) (get_or_append_left (sites_from before 0 (items_of first)) (sites_in (before + 1) blocks) default item (omega (arith, size, within)))
          ∙ from_at before 0 item (items_of first) default within;
    }
stands_at before start (first ∷ blocks) (suc block) item default within =
    let later = stands_at (before + 1) (start + count_in first) blocks block item default within in
    let size : length (sites_from before 0 (items_of first)) ≡ count_in first = from_length before 0 (items_of first) ∙ block_length first in
    let all = length-append (sites_from before 0 (items_of first)) (sites_in (before + 1) blocks) in
    let moved : length (sites_from before 0 (items_of first)) + (later.place + item) ≡ count_in first + later.place + item = omega (arith, size) in
    record {
      place = count_in first + later.place;
      from = later.from ∙ omega arith;
      within = omega (arith, size, all, later.within);
      what =
          ap (λ (n : ℕ). (get_or (sites_in before (first ∷ blocks)) n default).what) (sym moved)
          ∙ ap (λ (site : Site). site.what) (get_or-append-add (sites_from before 0 (items_of first)) (sites_in (before + 1) blocks) (later.place + item) default)
          ∙ later.what;
    }

starts_length : (start : ℕ) (blocks : List Block) → length (starts_from start blocks) ≡ length blocks
starts_length start [] = refl
starts_length start (block ∷ blocks) = ap suc (starts_length (start + count_in block) blocks)

some_block : (blocks : List Block) (block item : ℕ) → item < length (get_or (map items_of blocks) block []) → block < length blocks
some_block [] block item within = absurd (omega (arith, within))
some_block (first ∷ blocks) zero item within = omega arith
some_block (first ∷ blocks) (suc block) item within = let later = some_block blocks block item within in omega (arith, later)

-- ---- the lists at an item

same_length : {A B C : Type 0} (f : A → C) (g : B → C) (xs : List A) (ys : List B) → map f xs ≡ map g ys → length xs ≡ length ys
same_length f g xs ys same = sym (length-map xs f) ∙ ap length same ∙ length-map ys g

same_at : {A B C : Type 0} (f : A → C) (g : B → C) (xs : List A) (ys : List B) (i : ℕ) (x : A) (y : B) → map f xs ≡ map g ys → i < length ys → f (get_or xs i x) ≡ g (get_or ys i y)
same_at f g xs ys i x y same within =
    let size = same_length f g xs ys same in
    sym (get_or-map f xs i x (f x) (omega (arith, size, within)))
    ∙ ap (λ l. get_or l i (f x)) same
    ∙ get_or-map g ys i y (f x) within

module _ (values : List (List ℕ × ℕ)) (labels : List (List ℕ)) (blocks : List Block) (it : LinkLists) (are : AreWhole values labels blocks it) (block item : ℕ) (within : item < length (items_at blocks block)) where
  abbrev none : Site
  none = record { block = 0; item = 0; what = no_item }

  there : StandsAt 0 0 blocks block item none
  there = stands_at 0 0 blocks block item none within

  at_place : place_in it block item ≡ there.place + item
  at_place = ap (λ (l : List ℕ). get_or l block 0 + item) are.starts ∙ ap (λ (n : ℕ). n + item) (there.from ∙ none_before there.place)

  below : place_in it block item < length (sites_in 0 blocks)
  below = let inside = there.within in let place = at_place in omega (arith, inside, place)

  is_there : (get_or (sites_in 0 blocks) (place_in it block item) none).what ≡ item_at blocks block item
  is_there = ap (λ (n : ℕ). (get_or (sites_in 0 blocks) n none).what) at_place ∙ there.what

  abbrev some_sources : List Source → List (Option Source)
  some_sources list = map Some list

  abbrev some_blocks : List BlockId → List (Option BlockId)
  some_blocks list = map Some list

  abbrev sources_at : Site → List (Option Source)
  sources_at site = map (spec.source_of values) (spec.operands_of site.what)

  abbrev blocks_at : Site → List (Option BlockId)
  blocks_at site = map (spec.block_of labels) (spec.goals_of site.what)

  abbrev result_at : Site → Option ValueId
  result_at site = spec.result_of values site.what

  -- the item has its place
  pub has_item : HasItem it block item
  has_item =
      let starts = starts_length 0 blocks in
      let inside = some_block blocks block item within in
      let sources = same_length some_sources sources_at it.sources (sites_in 0 blocks) are.sources in
      let goals = same_length some_blocks blocks_at it.blocks (sites_in 0 blocks) are.goals in
      let results = length-map (sites_in 0 blocks) result_at in
      let place = below in
      record {
        starts = omega (arith, ap (length {A = ℕ}) are.starts, starts, inside);
        sources = omega (arith, sources, place);
        blocks = omega (arith, goals, place);
        results = omega (arith, ap (length {A = Option ValueId}) are.results, results, place);
      }

  -- and its numbers stand there
  pub are_links : (links : Links) → IsItem it block item links → spec.AreLinks values labels (item_at blocks block item) links
  are_links links is = record {
    sources = ap some_sources is.sources ∙ same_at some_sources sources_at it.sources (sites_in 0 blocks) (place_in it block item) [] none are.sources below ∙ ap (λ (what : Item). map (spec.source_of values) (spec.operands_of what)) is_there;
    blocks = ap some_blocks is.blocks ∙ same_at some_blocks blocks_at it.blocks (sites_in 0 blocks) (place_in it block item) [] none are.goals below ∙ ap (λ (what : Item). map (spec.block_of labels) (spec.goals_of what)) is_there;
    result = is.result ∙ ap (λ (l : List (Option ValueId)). get_or l (place_in it block item) None) are.results ∙ get_or-map result_at (sites_in 0 blocks) (place_in it block item) none None below ∙ ap (spec.result_of values) is_there;
  }
