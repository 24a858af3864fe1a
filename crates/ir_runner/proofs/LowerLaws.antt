-- Numbers in place of names, item by item.
use Rattle.std.proofs.Common.{◌≡◌, ◌<◌, ◌≤◌, ◌+◌, ℕ, zero, suc, List, [], ◌∷◌, ◌++◌, length, map, get_or, drop, Option, Some, None, option_map, refl, sym, ◌∙◌, ap, subst, arith, append_assoc, append-nil}
use Rattle.std.specs.Option.{unwrap_or}
use Rattle.std.proofs.lemmas.List.Sums.{get_or-le-sum_by}
use Rattle.std.proofs.lemmas.List.{length-map, length-append, get_or-map, get_or_append_left, get_or-append-add, get_or-drop, drop_more, drop_all}
use Rattle.ll_tree.specs.declared.func.Func.{Func}
use Rattle.ll_tree.specs.declared.block.Block.{Block}
use Rattle.ll_tree.specs.declared.block.Case.{Case}
use Rattle.ll_tree.specs.declared.block.Phi.{Phi}
use Rattle.ll_tree.specs.declared.block.Instr.{Instr}
use Rattle.ll_tree.specs.declared.block.End.TheVariants as end
use Rattle.ll_rules.specs.Items.{Item, OfPhi, OfInstr, OfEnd, items_of, targets_of, labels_of, values_of}
use Rattle.name_table.specs.Names.{place_of}
use Rattle.ll_links.specs.declared.link.BlockId.{BlockId}
use Rattle.ll_links.specs.declared.link.Source.{Source}
use Rattle.ll_links.specs.declared.link.Links.{Links}
use Rattle.ll_links.specs.Links.{block_id, block_of, source_of, operands_of, end_operands, source_coming, AreLinks, IsPhi}
use Rattle.ll_links.specs.Items.{items_at, item_at}
use Rattle.ll_flow.specs.Paths.{label_of}
use Rattle.ll_flow.proofs.PlaceLaws.{found_at}
use Rattle.ll_verifier.specs.Rules.{Rules}
use Rattle.ir_runner.specs.declared.code.PhiMove.{PhiMove}
use Rattle.ir_runner.specs.Code.{slot_of, known, source_code, step_with, step_code, move_code, places, target}
use Rattle.ir_runner.specs.Place.{IsAt}

abbrev pub items_in : Block → ℕ
items_in block = length block.phis + length block.body

-- ---- lists that are made from front to back

pub map_next : {X Y : Type 0} (f : X → Y) (made : List Y) (xs : List X) (i : ℕ) (x : X) (y : Y) → made ++ map f (drop i xs) ≡ map f xs → i < length xs → x ≡ get_or xs i x → y ≡ f x → (made ++ y ∷ []) ++ map f (drop (i + 1) xs) ≡ map f xs
map_next {X = X} {Y = Y} f made xs i x y so_far low at is =
    append_assoc made (y ∷ []) (map f (drop (i + 1) xs))
    ∙ ap (λ (z : Y). made ++ z ∷ map f (drop (i + 1) xs)) (is ∙ ap f at)
    ∙ ap (λ (rest : List X). made ++ map f rest) (sym (drop_more xs i x low))
    ∙ so_far

pub map_end : {X Y : Type 0} (f : X → Y) (made : List Y) (xs : List X) (i : ℕ) → made ++ map f (drop i xs) ≡ map f xs → length xs ≤ i → made ≡ map f xs
map_end {X = X} f made xs i so_far past = sym (append-nil made) ∙ ap (λ (rest : List X). made ++ map f rest) (sym (drop_all i xs past)) ∙ so_far

pub element : {X : Type 0} (xs : List X) (i : ℕ) → i < length xs → (x : X) × (x ≡ get_or xs i x)
element [] i low = absurd (omega (arith, low))
element (x ∷ xs) zero low = (x, refl)
element (x ∷ xs) (suc i) low = let later = element xs i (omega (arith, low)) in (later.0, later.1)

-- ---- numbers that are all there

pub sources_known : {A : Type 0} (f : A → Option Source) (sources : List Source) (values : List A) → map Some sources ≡ map f values → sources ≡ map (λ (value : A). known (f value)) values
sources_known f [] [] same = refl
sources_known f [] (value ∷ values) same = absurd (cc same)
sources_known f (source ∷ sources) [] same = absurd (cc same)
sources_known f (source ∷ sources) (value ∷ values) same =
    let here : Some source ≡ f value = ap (λ (l : List (Option Source)). get_or l 0 None) same in
    let rest = sources_known f sources values (ap (drop 1) same) in
    λ i. ap known here i ∷ rest i

abbrev block_number : Option BlockId → ℕ
block_number None = 0
block_number (Some block) = block.0

number_known : (found : Option ℕ) → block_number (option_map block_id found) ≡ unwrap_or found 0
number_known None = refl
number_known (Some place) = refl

pub places_known : (func : Func) (blocks : List BlockId) (labels : List (List ℕ)) → map Some blocks ≡ map (block_of (labels_of func)) labels → places blocks ≡ map (target func) labels
places_known func [] [] same = refl
places_known func [] (label ∷ labels) same = absurd (cc same)
places_known func (block ∷ blocks) [] same = absurd (cc same)
places_known func (block ∷ blocks) (label ∷ labels) same =
    let here : Some block ≡ block_of (labels_of func) label = ap (λ (l : List (Option BlockId)). get_or l 0 None) same in
    let rest = places_known func blocks labels (ap (drop 1) same) in
    λ i. (ap block_number here ∙ number_known (place_of label (labels_of func))) i ∷ rest i

-- a block that is named is there
pub target_low : (func : Func) (label : List ℕ) → 0 < length func.blocks → target func label < length func.blocks
target_low func label some = by_place (place_of label (labels_of func)) refl
  where
    by_place : (found : Option ℕ) → place_of label (labels_of func) ≡ found → target func label < length func.blocks
    by_place None is = subst (λ (n : ℕ). n < length func.blocks) (sym (ap (λ (found : Option ℕ). unwrap_or found 0) is)) some
    by_place (Some place) is =
        let low = found_at label (labels_of func) place is in
        let at : target func label ≡ place = ap (λ (found : Option ℕ). unwrap_or found 0) is in
        omega (arith, low.0, at, length-map func.blocks (λ (block : Block). block.label))

-- ---- items of the block at a place

abbrev no_item : Item
no_item = OfEnd end.Unreachable

module _ (func : Func) (at : ℕ) (block : Block) (is_at : IsAt func at block) where
  items_are : items_at func.blocks at ≡ items_of block
  items_are = get_or-map items_of func.blocks at block [] is_at.within ∙ ap items_of is_at.is

  pub count : length (items_at func.blocks at) ≡ length block.phis + length block.body + 1
  count =
      let all = length-append (map OfPhi block.phis) (map OfInstr block.body ++ OfEnd block.end ∷ []) in
      let rest = length-append (map OfInstr block.body) (OfEnd block.end ∷ []) in
      let phis = length-map {B = Item} block.phis OfPhi in
      let body = length-map {B = Item} block.body OfInstr in
      ap length items_are ∙ omega (arith, all, rest, phis, body)

  pub phi_is : (item : ℕ) (phi : Phi) → item < length block.phis → item_at func.blocks at item ≡ OfPhi (get_or block.phis item phi)
  phi_is item phi inside =
      let size = length-map {B = Item} block.phis OfPhi in
      ap (λ (items : List Item). get_or items item no_item) items_are
      ∙ get_or_append_left (map OfPhi block.phis) (map OfInstr block.body ++ OfEnd block.end ∷ []) no_item item (omega (arith, size, inside))
      ∙ get_or-map OfPhi block.phis item phi no_item inside

  behind : (item : ℕ) → item_at func.blocks at (length block.phis + item) ≡ get_or (map OfInstr block.body ++ OfEnd block.end ∷ []) item no_item
  behind item =
      let size : length block.phis + item ≡ length (map OfPhi block.phis) + item = ap (λ (n : ℕ). n + item) (sym (length-map {B = Item} block.phis OfPhi)) in
      ap (λ (items : List Item). get_or items (length block.phis + item) no_item) items_are
      ∙ ap (λ (n : ℕ). get_or (items_of block) n no_item) size
      ∙ get_or-append-add (map OfPhi block.phis) (map OfInstr block.body ++ OfEnd block.end ∷ []) item no_item

  pub instr_is : (item : ℕ) (instr : Instr) → item < length block.body → item_at func.blocks at (length block.phis + item) ≡ OfInstr (get_or block.body item instr)
  instr_is item instr inside =
      let size = length-map {B = Item} block.body OfInstr in
      behind item
      ∙ get_or_append_left (map OfInstr block.body) (OfEnd block.end ∷ []) no_item item (omega (arith, size, inside))
      ∙ get_or-map OfInstr block.body item instr no_item inside

  pub end_is : item_at func.blocks at (length block.phis + length block.body) ≡ OfEnd block.end
  end_is =
      let size : length block.body ≡ length (map OfInstr block.body) + 0 = sym (length-map {B = Item} block.body OfInstr) ∙ omega arith in
      behind (length block.body)
      ∙ ap (λ (n : ℕ). get_or (map OfInstr block.body ++ OfEnd block.end ∷ []) n no_item) size
      ∙ get_or-append-add (map OfInstr block.body) (OfEnd block.end ∷ []) 0 no_item

  -- ---- what is linked

  abbrev Linked : Item → Links → Type 0
  Linked item links = AreLinks (values_of func) (labels_of func) item links

  pub step_linked : (item : ℕ) (instr : Instr) (links : Links) → item < length block.body → instr ≡ get_or block.body item instr → Linked (item_at func.blocks at (length block.phis + item)) links → step_with instr.op links.sources.now (slot_of links.result) ≡ step_code func instr
  step_linked item instr links inside is linked =
      let here : Linked (OfInstr instr) links = subst (λ (i : Item). Linked i links) (instr_is item instr inside ∙ ap OfInstr (sym is)) linked in
      let sources = sources_known (source_of (values_of func)) links.sources.now (operands_of (OfInstr instr)) here.sources in
      λ i. step_with instr.op (sources i) (slot_of (here.result i))

  pub move_linked : (from : ℕ) (item : ℕ) (phi : Phi) (links : Links) (move : PhiMove) → item < length block.phis → phi ≡ get_or block.phis item phi → Linked (item_at func.blocks at item) links
      → move.source ≡ known (source_coming (values_of func) (label_of func from) (item_at func.blocks at item)) → move.to ≡ slot_of links.result → move ≡ move_code func (label_of func from) phi
  move_linked from item phi links move inside is linked source to =
      let item_is : item_at func.blocks at item ≡ OfPhi phi = phi_is item phi inside ∙ ap OfPhi (sym is) in
      let here : Linked (OfPhi phi) links = subst (λ (i : Item). Linked i links) item_is linked in
      let from_is = source ∙ ap (λ (i : Item). known (source_coming (values_of func) (label_of func from) i)) item_is in
      λ i. record { source = from_is i; to = (to ∙ ap slot_of here.result) i }

  pub phi_there : (item : ℕ) → item < length block.phis → IsPhi (item_at func.blocks at item)
  phi_there item inside = let phi = element block.phis item inside in subst IsPhi (sym (phi_is item phi.0 inside)) tt

  pub end_linked : (links : Links) → Linked (item_at func.blocks at (length block.phis + length block.body)) links
      → (links.sources.now ≡ map (source_code func) (end_operands block.end)) × (places links.blocks.now ≡ map (target func) (targets_of block.end))
  end_linked links linked =
      let here : Linked (OfEnd block.end) links = subst (λ (i : Item). Linked i links) end_is linked in
      (sources_known (source_of (values_of func)) links.sources.now (end_operands block.end) here.sources, places_known func links.blocks.now (targets_of block.end) here.blocks)

  -- a block has few items
  pub few_items : Rules func → length block.phis + length block.body ≤ 2048
  few_items rules =
      let one = get_or-le-sum_by items_in func.blocks at block is_at.within in
      let here : items_in (get_or func.blocks at block) ≡ items_in block = ap items_in is_at.is in
      let all = rules.limits.values in
      omega (arith, one, here, all)

-- ---- targets in order

module _ (func : Func) (blocks : List BlockId) (labels : List (List ℕ)) (are : places blocks ≡ map (target func) labels) where
  pub target_at : (at : ℕ) (label : List ℕ) → at < length labels → get_or labels at label ≡ label → (to : ℕ) → to ≡ get_or (places blocks) at 0 → to ≡ target func label
  target_at at label low is to to_is =
      to_is ∙ ap (λ (all : List ℕ). get_or all at 0) are ∙ get_or-map (target func) labels at label 0 low ∙ ap (target func) is

behind_first : (targets : List ℕ) (at : ℕ) → get_or (drop 1 targets) at 0 ≡ get_or targets (at + 1) 0
behind_first targets at = get_or-drop 1 targets at 0 ∙ ap (λ (n : ℕ). get_or targets n 0) (omega arith)

-- the target of a case
pub case_target : (func : Func) (targets : List ℕ) (cases : List Case) → drop 1 targets ≡ map (λ (case : Case). target func case.to) cases → (item : ℕ) (case : Case) → item < length cases → case ≡ get_or cases item case → (to : ℕ) → to ≡ get_or targets (item + 1) 0 → to ≡ target func case.to
case_target func targets cases are item case low is to to_is =
    to_is ∙ sym (behind_first targets item) ∙ ap (λ (all : List ℕ). get_or all item 0) are
    ∙ get_or-map (λ (case : Case). target func case.to) cases item case 0 low ∙ ap (λ (case : Case). target func case.to) (sym is)

pub targets_mapped : (func : Func) (cases : List Case) → map (target func) (map (λ (case : Case). case.to) cases) ≡ map (λ (case : Case). target func case.to) cases
targets_mapped func [] = refl
targets_mapped func (case ∷ cases) = ap (λ (rest : List ℕ). target func case.to ∷ rest) (targets_mapped func cases)
