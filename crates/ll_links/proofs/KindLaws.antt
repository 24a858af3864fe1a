-- The items of a block are its phis, its instructions and its terminator.
use Rattle.std.proofs.Common.{◌≡◌, ◌<◌, ◌+◌, ℕ, List, [], ◌∷◌, ◌++◌, length, get_or, map, sym, ◌∙◌, ap, arith}
use Rattle.std.proofs.lemmas.List.{length-map, get_or-map, get_or_append_left, get_or-append-add}
use Rattle.ll_tree.specs.declared.block.Block.{Block}
use Rattle.ll_tree.specs.declared.block.Phi.{Phi}
use Rattle.ll_tree.specs.declared.block.Instr.{Instr}
use Rattle.ll_tree.specs.declared.block.End.TheVariants as end
use Rattle.ll_rules.specs.Items.{Item, OfPhi, OfInstr, OfEnd, items_of}
use Rattle.ll_links.specs.Items.{items_at, item_at}

abbrev no_item : Item
no_item = OfEnd end.Unreachable

items_there : (blocks : List Block) (at : ℕ) (block : Block) → at < length blocks → get_or blocks at block ≡ block → items_at blocks at ≡ items_of block
items_there blocks at block within is = get_or-map items_of blocks at block [] within ∙ ap items_of is

pub phi_there : (blocks : List Block) (at item : ℕ) (block : Block) (phi : Phi) → at < length blocks → get_or blocks at block ≡ block → item < length block.phis → item_at blocks at item ≡ OfPhi (get_or block.phis item phi)
phi_there blocks at item block phi within is inside =
    let size = length-map {B = Item} block.phis OfPhi in
    ap (λ (items : List Item). get_or items item no_item) (items_there blocks at block within is)
    ∙ get_or_append_left (map OfPhi block.phis) (map OfInstr block.body ++ OfEnd block.end ∷ []) no_item item (omega (arith, size, inside))
    ∙ get_or-map OfPhi block.phis item phi no_item inside

-- behind the phis
behind : (block : Block) (item : ℕ) → get_or (items_of block) (length block.phis + item) no_item ≡ get_or (map OfInstr block.body ++ OfEnd block.end ∷ []) item no_item
behind block item =
    let size : length block.phis + item ≡ length (map OfPhi block.phis) + item = ap (λ (n : ℕ). n + item) (sym (length-map {B = Item} block.phis OfPhi)) in
    ap (λ (n : ℕ). get_or (items_of block) n no_item) size
    ∙ get_or-append-add (map OfPhi block.phis) (map OfInstr block.body ++ OfEnd block.end ∷ []) item no_item

pub instr_there : (blocks : List Block) (at item : ℕ) (block : Block) (instr : Instr) → at < length blocks → get_or blocks at block ≡ block → item < length block.body → item_at blocks at (length block.phis + item) ≡ OfInstr (get_or block.body item instr)
instr_there blocks at item block instr within is inside =
    let size = length-map {B = Item} block.body OfInstr in
    ap (λ (items : List Item). get_or items (length block.phis + item) no_item) (items_there blocks at block within is)
    ∙ behind block item
    ∙ get_or_append_left (map OfInstr block.body) (OfEnd block.end ∷ []) no_item item (omega (arith, size, inside))
    ∙ get_or-map OfInstr block.body item instr no_item inside

pub end_there : (blocks : List Block) (at : ℕ) (block : Block) → at < length blocks → get_or blocks at block ≡ block → item_at blocks at (length block.phis + length block.body) ≡ OfEnd block.end
end_there blocks at block within is =
    let size : length block.body ≡ length (map OfInstr block.body) + 0 = sym (length-map {B = Item} block.body OfInstr) ∙ omega arith in
    ap (λ (items : List Item). get_or items (length block.phis + length block.body) no_item) (items_there blocks at block within is)
    ∙ behind block (length block.body)
    ∙ ap (λ (n : ℕ). get_or (map OfInstr block.body ++ OfEnd block.end ∷ []) n no_item) size
    ∙ get_or-append-add (map OfInstr block.body) (OfEnd block.end ∷ []) 0 no_item
