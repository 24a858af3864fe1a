-- How many items a block has.
use Rattle.std.proofs.Common.{◌≡◌, ℕ, ◌+◌, ◌≤◌, List, [], ◌∷◌, ◌++◌, length, map, get_or, slice_get, Some, sym, ap, ◌∙◌, arith}
use Rattle.std.proofs.lemmas.List.{length-append, length-map, get_or-map}
use Rattle.std.proofs.lemmas.Option.{get_or_from_slice_get, slice_get_within}
use Rattle.ll_tree.specs.declared.block.Block.{Block}
use Rattle.ll_rules.specs.Items.{Item, OfPhi, OfInstr, OfEnd, items_of}
use Rattle.ll_links.specs.Items.{items_at}

count_of : (block : Block) → length (items_of block) ≡ length block.phis + (length block.body + 1)
count_of block =
    let phis = length-map block.phis OfPhi in
    let body = length-map block.body OfInstr in
    let rest = length-append (map OfInstr block.body) (OfEnd block.end ∷ []) in
    let all = length-append (map OfPhi block.phis) (map OfInstr block.body ++ OfEnd block.end ∷ []) in
    omega (arith, phis, body, rest, all)

pub item_within : (blocks : List Block) (at count : ℕ) (block : Block)
    → slice_get blocks at ≡ Some block → count ≤ length block.phis + length block.body + 1
    → count ≤ length (items_at blocks at)
item_within blocks at count block here few =
    let within = slice_get_within blocks at block here in
    let same : items_at blocks at ≡ items_of block =
    get_or-map items_of blocks at block [] within ∙ ap items_of (get_or_from_slice_get blocks at block block here) in
    omega (arith, few, ap (λ (items : List Item). length items) same, count_of block)
