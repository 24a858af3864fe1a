-- Cases that are numbered behind edges and constants and before all pieces stand apart from what pieces read.
use Rattle.std.proofs.Common.{◌≡◌, inl, inr, ◌<◌, ◌≤◌, ◌+◌, ⊎_elim, ℕ, List, [], length, get_or, map, take, Option, Some, None, option_map, option_to_list, refl, sym, ◌∙◌, ap, subst, arith}
use Rattle.std.specs.Prelude.{Contains, All, flat_map}
use Rattle.std.specs.Option.{unwrap_or}
use Rattle.std.proofs.lemmas.List.{get_or_append_left, get_or_default, get_or-take, length-map, length-append, length-take}
use Rattle.std.proofs.lemmas.List.Elements.{All-contains, All-weaker, Contains-append_cases, Contains-get_or}
use Rattle.ll_tree.specs.declared.func.Param.{Param}
use Rattle.ll_tree.specs.declared.block.Block.{Block}
use Rattle.ll_tree.specs.declared.block.Instr.{Instr}
use Rattle.ll_rules.specs.Items.{Item, OfPhi, OfInstr, OfEnd, items_of, result_width, values_of}
use Rattle.name_table.specs.Names.{AreDifferent}
use Rattle.ll_flow.proofs.PlaceLaws.{no_item, cons_cases, place_is}
use Rattle.ll_links.specs.declared.link.Source.TheVariants as source
use Rattle.ll_links.specs.Links.{value_id, value_source}
use Rattle.ll_verifier.specs.Sound.{SoundFunc, IsSound}
use Rattle.ir_runs.specs.Walk.{block_names}
use Rattle.ir_runs.proofs.MemberLaws.{in_here, flat_in}
use Rattle.ir_runs.proofs.NamesLaws.{value_name, item_names, param_names, block_names_are}
use Rattle.ir_runs.proofs.WidthLaws.{values_named, without_labels}
use Rattle.portion_cuts.proofs.WalkPaths.{position_of}
use Rattle.wrap_rows.specs.declared.vars.ValueVars.{ValueVars}
use Rattle.ir_pieces.specs.declared.list.Placed.{Placed}
use Rattle.ir_pieces.specs.Pieces.{vars}
use Rattle.ir_pieces.specs.Lists.{ArePlaced}
use Rattle.path_encoding.specs.declared.spots.ConstSpot.{ConstSpot}
use Rattle.path_encoding.specs.declared.spots.PathSpots.{PathSpots}
use Rattle.path_encoding.specs.Spots.{value_vars, source_vars, block_at}
use Rattle.value_pieces.specs.Pieces.{operands_of, name_vars}
use Rattle.piece_values.specs.Owners.{Owner, PhiOwner, OpOwner, op_owner, owners_of, IsPieceOf, ArePiecesOf}
use Rattle.piece_values.proofs.OrderLaws.{block_is}
use Rattle.piece_values.proofs.OwnerLaws.{of_item, has}
use Rattle.piece_vars.specs.Reads.{Both}
use Rattle.piece_vars.specs.Cases.{IsOutside, AreCasesBetween, IsNoCase, AreCasesApart}
use Rattle.piece_vars.proofs.OwnLaws.{IsFirst, of_op, IsBehind, stands_behind}

module _ (it : SoundFunc) (sound : IsSound it) (spots : PathSpots) (from to last : ℕ) (between : AreCasesBetween it spots from to) where
  abbrev names : List (List ℕ)
  names = map value_name (values_of it.func)

  abbrev given : List (List ℕ)
  given = flat_map block_names it.func.blocks

  abbrev values : List ValueVars
  values = spots.values.items

  abbrev none : ValueVars
  none = value_vars 0 0

  abbrev IsClear : ValueVars → Type 0
  IsClear = Both (IsOutside from to)

  -- a value by its place
  name_at : (k : ℕ) → k < length names → name_vars it spots (get_or names k []) ≡ get_or values k none
  name_at k low =
      let different : AreDifferent names = subst AreDifferent (sym (values_named it.func)) (without_labels (param_names it.func) it.func.blocks sound.rules.names) in
      ap (λ (found : Option ℕ). source_vars spots (unwrap_or (value_source (option_map value_id found)) source.Poison)) (place_is names different k low)

  -- ---- parameters

  param_clear : (name : List ℕ) → Contains (param_names it.func) name → IsClear (name_vars it spots name)
  param_clear name (k, low, is) =
      let below : k < length it.func.params = omega (arith, low, length-map it.func.params (λ (param : Param). param.name)) in
      let size : length names ≡ length (param_names it.func) + length given = ap length (values_named it.func) ∙ length-append (param_names it.func) given in
      let same : get_or names k [] ≡ get_or (param_names it.func) k [] = ap (λ (list : List (List ℕ)). get_or list k []) (values_named it.func) ∙ get_or_append_left (param_names it.func) given [] k low in
      let named : get_or names k [] ≡ name = same ∙ get_or_default (param_names it.func) k [] name low ∙ is in
      let place : k < length names = omega (arith, low, size) in
      let enough : k < length values = omega (arith, place, between.count, length-map (values_of it.func) value_name) in
      let stands : name_vars it spots name ≡ get_or values k none = ap (name_vars it spots) (sym named) ∙ name_at k place in
      let front : k < length (take (length it.func.params) values) = omega (arith, below, enough, length-take (length it.func.params) values) in
      subst IsClear (get_or-take (length it.func.params) values k none below ∙ sym stands) (between.params k none front)

  -- ---- phis and instructions

  module _ (placed : List Placed) (are : ArePiecesOf it spots placed) (stand : ArePlaced to last placed) where
    behind_clear : (value : ValueVars) → IsBehind to value → IsClear value
    behind_clear value behind = (inr behind.0, inr behind.1)

    owner_clear : (owner : Owner) → Contains (owners_of it) owner → (name : List ℕ) → ((one : Placed) → IsPieceOf it spots owner one → IsFirst one.piece × (vars one.piece one.first ≡ name_vars it spots name)) → IsClear (name_vars it spots name)
    owner_clear owner there name is =
        let (one, among, piece) = has it sound spots placed are owner there in
        let found = is one piece in
        behind_clear (name_vars it spots name) (stands_behind to last placed one stand among found.0 (name_vars it spots name) found.1)

    instr_clear : (at : ℕ) → at < length it.flow.order → (instr : Instr) → Contains (items_of (block_at it at)) (OfInstr instr) → (name : List ℕ) → (width : Option ℕ) → result_width instr.op ≡ width → Contains (option_to_list (option_map (λ (w : ℕ). instr.name) width)) name → IsClear (name_vars it spots name)
    instr_clear at low instr inside name None is mine = absurd (no_item name mine)
    instr_clear at low instr inside name (Some width) is mine =
        let owned : Contains (op_owner instr (result_width instr.op)) (OpOwner instr) = subst (λ (o : Option ℕ). Contains (op_owner instr o) (OpOwner instr)) (sym is) (in_here (OpOwner instr) []) in
        let same : instr.name ≡ name = ⊎_elim (λ here. here) (λ none. absurd (no_item name none)) (cons_cases instr.name [] name mine) in
        owner_clear (OpOwner instr) (of_item it sound spots placed are at low (OfInstr instr) inside (OpOwner instr) owned) name
        (λ one piece. (of_op instr.op (operands_of it spots instr.op) one.piece piece.piece, piece.stands ∙ ap (name_vars it spots) same))

    item_clear : (at : ℕ) → at < length it.flow.order → (item : Item) → Contains (items_of (block_at it at)) item → (name : List ℕ) → Contains (item_names item) name → IsClear (name_vars it spots name)
    item_clear at low (OfPhi phi) inside name mine =
        let same : phi.name ≡ name = ⊎_elim (λ here. here) (λ none. absurd (no_item name none)) (cons_cases phi.name [] name mine) in
        owner_clear (PhiOwner at phi) (of_item it sound spots placed are at low (OfPhi phi) inside (PhiOwner at phi) (in_here (PhiOwner at phi) [])) name
        (λ one piece. (subst IsFirst (sym piece.piece.is) (λ first. refl), piece.stands ∙ ap (name_vars it spots) same))
    item_clear at low (OfInstr instr) inside name mine = instr_clear at low instr inside name (result_width instr.op) refl mine
    item_clear at low (OfEnd terminator) inside name mine = absurd (no_item name mine)

    given_clear : (name : List ℕ) → Contains given name → IsClear (name_vars it spots name)
    given_clear name there =
        let (block, inside, mine) = flat_in block_names it.func.blocks name there in
        let at = position_of it sound block inside in
        let same : block ≡ block_at it at.0 = block_is it sound block inside at.0 at.1 at.2 in
        let (item, among, own) = flat_in item_names (items_of block) name (subst (λ (list : List (List ℕ)). Contains list name) (block_names_are block) mine) in
        item_clear at.0 at.1 item (subst (λ (b : Block). Contains (items_of b) item) same among) name own

    name_clear : (name : List ℕ) → Contains names name → IsClear (name_vars it spots name)
    name_clear name there =
        ⊎_elim (param_clear name) (given_clear name)
        (Contains-append_cases (param_names it.func) given name (subst (λ (list : List (List ℕ)). Contains list name) (values_named it.func) there))

    values_clear : All IsClear values
    values_clear k d low =
        let place : k < length names = omega (arith, low, between.count, length-map (values_of it.func) value_name) in
        let stands : name_vars it spots (get_or names k []) ≡ get_or values k d = name_at k place ∙ get_or_default values k none d low in
        subst IsClear stands (name_clear (get_or names k []) (Contains-get_or names k [] place))

    -- ---- no case is among them

    outside_no_case : (var : ℕ) → IsOutside from to var → IsNoCase spots var
    outside_no_case var outside there =
        let case = All-contains (λ (v : ℕ). (from ≤ v) × (v < to)) spots.cases.items var between.cases there in
        ⊎_elim (λ before. omega (arith, before, case.0)) (λ behind. omega (arith, behind, case.1)) outside

    pub cases_apart : AreCasesApart spots
    cases_apart = record {
      numbers = All-weaker (λ (var : ℕ). (from ≤ var) × (var < to)) (λ var. 2 ≤ var) (λ var case. omega (arith, case.0, between.numbers)) spots.cases.items between.cases;
      edges = All-weaker (λ (var : ℕ). var < from) (IsNoCase spots) (λ var low. outside_no_case var (inl low)) spots.edges.items between.edges;
      values = All-weaker IsClear (Both (IsNoCase spots)) (λ value clear. (outside_no_case value.number clear.0, outside_no_case value.mark clear.1)) values values_clear;
      constants = All-weaker (λ (spot : ConstSpot). spot.var < from) (λ spot. IsNoCase spots spot.var) (λ spot low. outside_no_case spot.var (inl low)) spots.constants.items between.constants;
    }
