-- A block whose items were declared, and the last of them.
use Rattle.std.proofs.Common.{◌≡◌, ◌+◌, ◌<◌, ℕ, zero, suc, List, [], ◌∷◌, ◌++◌, length, get_or, take, map, append_assoc, append-nil, length-append, sym, ◌∙◌, ap, subst, arith}
use Rattle.std.specs.Prelude.{flat_map}
use Rattle.std.specs.List.{AllZip, range_with_len}
use Rattle.std.proofs.Math.Seq.{take-append_seam}
use Rattle.std.proofs.Math.ListN.{get_or-append}
use Rattle.std.proofs.lemmas.List.{length-map, get_or-map, get_or-append-add}
use Rattle.std.proofs.lemmas.List.Concat.{flat_map-append}
use Rattle.std.proofs.lemmas.List.FromFn.{map-range_with_len_more}
use Rattle.ll_tree.specs.declared.func.Param.{Param}
use Rattle.ll_tree.specs.declared.block.Block.{Block}
use Rattle.ll_tree.specs.declared.block.Phi.{Phi}
use Rattle.ll_tree.specs.declared.block.Instr.{Instr}
use Rattle.ll_tree.specs.declared.block.End.TheVariants as end
use Rattle.ll_rules.specs.Items.{Item, OfPhi, OfInstr, OfEnd, items_of}
use Rattle.ll_verifier.specs.Sound.{SoundFunc, IsSound}
use Rattle.ir_runs.specs.Walk.{block_names, names_on}
use Rattle.ir_runs.proofs.NamesLaws.{item_names, names_in, param_names, block_names_are}
use Rattle.path_encoding.specs.Spots.{block_at}
use Rattle.piece_values.specs.Owners.{Owner, range_owner, item_owner, block_owners, IsPieceOf, ArePiecesOf}
use Rattle.piece_reads.specs.Given.{blocks_before, given_before, AgreeOn}
use Rattle.piece_list.specs.declared.draft.Declared.{Declared}
use Rattle.piece_list.specs.Drafts.{front_of, IsItem, owners_before, IsDrafted}
use Rattle.piece_list.proofs.FollowLaws.{agree_self}
use Rattle.piece_list.proofs.FormLaws.{items_few, items_count}

range_more : (first count : ℕ) → range_with_len first (count + 1) ≡ range_with_len first count ++ (first + count) ∷ []
range_more first zero = let same : first ≡ first + 0 = omega arith in ap (λ (n : ℕ). n ∷ []) same
range_more first (suc count) =
    let more : suc count + 1 ≡ suc (count + 1) = omega arith in
    let last : first + 1 + count ≡ first + suc count = omega arith in
    ap (range_with_len first) more
    ∙ ap (λ (rest : List ℕ). first ∷ rest) (range_more (first + 1) count ∙ ap (λ (n : ℕ). range_with_len (first + 1) count ++ n ∷ []) last)

module _ (it : SoundFunc) (at : ℕ) where
  abbrev block : Block
  block = block_at it at

  abbrev phis : List Item
  phis = map OfPhi block.phis

  abbrev body : List Item
  body = map OfInstr block.body

  abbrev Names : Type 0
  Names = List (List ℕ)

  -- phis and instructions, without the terminator
  pub phis_then_body : front_of it at (length block.phis + length block.body) ≡ phis ++ body
  phis_then_body =
      let whole : items_of block ≡ (phis ++ body) ++ OfEnd block.end ∷ [] = sym (append_assoc phis body (OfEnd block.end ∷ [])) in
      let size : length block.phis + length block.body ≡ length (phis ++ body) = omega (arith, length-append phis body, length-map block.phis OfPhi, length-map block.body OfInstr) in
      (λ i. take (size i) (whole i)) ∙ take-append_seam (phis ++ body) (OfEnd block.end ∷ [])

  pub phis_first : front_of it at (length block.phis) ≡ phis
  phis_first =
      let size : length block.phis ≡ length phis = omega (arith, length-map block.phis OfPhi) in
      ap (λ (n : ℕ). take n (items_of block)) size ∙ take-append_seam phis (body ++ OfEnd block.end ∷ [])

  -- its items by their places
  module _ (low : at < length it.flow.order) (sound : IsSound it) where
    pub phi_item : (k : ℕ) (phi : Phi) → k < length block.phis → get_or block.phis k phi ≡ phi → IsItem it at k (OfPhi phi)
    phi_item k phi k_low is = record {
      within = low;
      low = omega (arith, k_low, items_count it sound at low);
      is = get_or-append phis (body ++ OfEnd block.end ∷ []) (OfEnd end.Unreachable) k (omega (arith, k_low, length-map block.phis OfPhi))
          ∙ get_or-map OfPhi block.phis k phi (OfEnd end.Unreachable) k_low ∙ ap OfPhi is;
    }

    pub instr_item : (k : ℕ) (instr : Instr) → k < length block.body → get_or block.body k instr ≡ instr → IsItem it at (length block.phis + k) (OfInstr instr)
    instr_item k instr k_low is = record {
      within = low;
      low = omega (arith, k_low, items_count it sound at low);
      is = ap (λ (n : ℕ). get_or (items_of block) (n + k) (OfEnd end.Unreachable)) (sym (length-map block.phis OfPhi))
          ∙ get_or-append-add phis (body ++ OfEnd block.end ∷ []) k (OfEnd end.Unreachable)
          ∙ get_or-append body (OfEnd block.end ∷ []) (OfEnd end.Unreachable) k (omega (arith, k_low, length-map block.body OfInstr))
          ∙ get_or-map OfInstr block.body k instr (OfEnd end.Unreachable) k_low ∙ ap OfInstr is;
    }

  -- ---- at the end of a block

  names_next : given_before it (at + 1) [] ≡ given_before it at (phis ++ body)
  names_next =
      let none : given_before it (at + 1) [] ≡ names_on it.func (blocks_before it (at + 1)) = append-nil (names_on it.func (blocks_before it (at + 1))) in
      let blocks : blocks_before it (at + 1) ≡ blocks_before it at ++ block ∷ [] = map-range_with_len_more (block_at it) 0 at at (omega arith) in
      let own : block_names block ≡ names_in (phis ++ body) =
      block_names_are block ∙ ap names_in (sym (append_assoc phis body (OfEnd block.end ∷ []))) ∙ flat_map-append item_names (phis ++ body) (OfEnd block.end ∷ []) ∙ append-nil (names_in (phis ++ body)) in
      let given : flat_map block_names (blocks_before it (at + 1)) ≡ flat_map block_names (blocks_before it at) ++ names_in (phis ++ body) =
      ap (flat_map block_names) blocks ∙ flat_map-append block_names (blocks_before it at) (block ∷ [])
      ∙ ap (λ (names : Names). flat_map block_names (blocks_before it at) ++ names) (append-nil (block_names block) ∙ own) in
      none ∙ ap (λ (names : Names). param_names it.func ++ names) given ∙ sym (append_assoc (param_names it.func) (flat_map block_names (blocks_before it at)) (names_in (phis ++ body)))

  owners_next : owners_before it (at + 1) [] ≡ owners_before it at (phis ++ body)
  owners_next =
      let params : List Owner = flat_map (λ (param : Param). range_owner param param.range) it.func.params in
      let before : List Owner = flat_map (block_owners it) (range_with_len 0 at) in
      let own : block_owners it at ≡ flat_map (item_owner at) (phis ++ body) =
      ap (flat_map (item_owner at)) (sym (append_assoc phis body (OfEnd block.end ∷ []))) ∙ flat_map-append (item_owner at) (phis ++ body) (OfEnd block.end ∷ []) ∙ append-nil (flat_map (item_owner at) (phis ++ body)) in
      let start : 0 + at ≡ at = omega arith in
      let blocks : flat_map (block_owners it) (range_with_len 0 (at + 1)) ≡ before ++ flat_map (item_owner at) (phis ++ body) =
      ap (flat_map (block_owners it)) (range_more 0 at ∙ ap (λ (n : ℕ). range_with_len 0 at ++ n ∷ []) start)
      ∙ flat_map-append (block_owners it) (range_with_len 0 at) (at ∷ [])
      ∙ ap (λ (owners : List Owner). before ++ owners) (append-nil (block_owners it at) ∙ own) in
      append-nil (params ++ flat_map (block_owners it) (range_with_len 0 (at + 1))) ∙ ap (λ (owners : List Owner). params ++ owners) blocks
      ∙ sym (append_assoc params before (flat_map (item_owner at) (phis ++ body)))

  pub block_done : IsSound it → at < length it.flow.order → (draft : Declared) → IsDrafted it at (front_of it at (length block.phis + length block.body)) draft → IsDrafted it (at + 1) [] draft
  block_done sound low draft given =
      let all : IsDrafted it at (phis ++ body) draft = subst (λ (front : List Item). IsDrafted it at front draft) phis_then_body given in
      record {
        pieces = λ final agree. subst (λ (owners : List Owner). AllZip (IsPieceOf it final) owners draft.placed.items) (sym owners_next)
            (all.pieces final (subst (λ (names : Names). AgreeOn it names draft.spots final) names_next agree));
        stand = all.stand;
        exist = all.exist;
        edges = all.edges;
        values = all.values;
        few = omega (arith, all.few, items_few it sound at low, length-append phis body, length-map block.phis OfPhi, length-map block.body OfInstr);
        room = all.room;
      }

-- ---- at the end of all

pub all_done : (it : SoundFunc) (draft : Declared) → IsDrafted it (length it.flow.order) [] draft → ArePiecesOf it draft.spots draft.placed.items
all_done it draft all =
    let owners = append-nil (flat_map (λ (param : Param). range_owner param param.range) it.func.params ++ flat_map (block_owners it) (range_with_len 0 (length it.flow.order))) in
    subst (λ (list : List Owner). AllZip (IsPieceOf it draft.spots) list draft.placed.items) owners
    (all.pieces draft.spots (agree_self it (given_before it (length it.flow.order) []) draft.spots))
