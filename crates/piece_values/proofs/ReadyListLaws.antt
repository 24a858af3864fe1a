-- All pieces of a function can be filled in, in their order.
use Rattle.std.proofs.Common.{◌≡◌, inl, inr, ◌+◌, ◌<◌, ⊎_elim, ℕ, zero, suc, ℤ, pos, List, [], ◌∷◌, ◌++◌, length, map, Option, Some, None, option_to_list, option_map, refl, sym, ◌∙◌, ap, subst, arith, append_assoc, append-nil}
use Rattle.std.specs.Prelude.{Contains, flat_map}
use Rattle.std.specs.List.{AllZip, range_with_len}
use Rattle.std.proofs.lemmas.Int.{ints}
use Rattle.std.proofs.lemmas.List.Elements.{Contains-append_left, Contains-append_right, Contains-append_cases}
use Rattle.mix_system.specs.Row.{number_at}
use Rattle.ll_tree.specs.declared.func.Param.{Param}
use Rattle.ll_tree.specs.declared.func.Range.{Range}
use Rattle.ll_tree.specs.declared.block.Block.{Block}
use Rattle.ll_tree.specs.declared.block.Phi.{Phi}
use Rattle.ll_tree.specs.declared.block.Instr.{Instr}
use Rattle.ll_rules.specs.Items.{Item, OfPhi, OfInstr, OfEnd, items_of, result_width, block_values}
use Rattle.ll_flow.proofs.PlaceLaws.{no_item, cons_cases}
use Rattle.ll_verifier.specs.Sound.{SoundFunc, IsSound}
use Rattle.ir_runs.proofs.MemberLaws.{in_here, in_there, in_map, map_in}
use Rattle.wrap_rows.specs.declared.vars.ValueVars.{ValueVars}
use Rattle.wrap_rows.specs.Piece.{AreIn}
use Rattle.wrap_rows.specs.Vars.{IsMark, IsValue}
use Rattle.ir_pieces.specs.declared.piece.IrPiece.{IrPiece}
use Rattle.ir_pieces.specs.declared.piece.IrPiece.TheVariants as kind
use Rattle.ir_pieces.specs.declared.list.Placed.{Placed}
use Rattle.ir_pieces.specs.Pieces.{ranges, vars, CanFill, CanSay}
use Rattle.ir_pieces.specs.Lists.{AreReady}
use Rattle.ir_pieces.specs.Choice.{range_piece}
use Rattle.ir_pieces.proofs.RangeLaws.{range_takes}
use Rattle.path_encoding.specs.declared.spots.PathSpots.{PathSpots}
use Rattle.path_encoding.specs.Spots.{block_at, AreSpotsOf}
use Rattle.value_pieces.specs.Pieces.{name_vars}
use Rattle.piece_values.specs.Owners.{Owner, RangeOwner, OpOwner, range_owner, op_owner, item_owner, block_owners, IsPieceOf, ArePiecesOf}
use Rattle.piece_values.specs.Ready.{IsReady}
use Rattle.piece_values.proofs.RangeLaws.{range_mark}
use Rattle.piece_values.proofs.ReadyLaws.{of_some, any_width, IsValueOf, GivenAt, Knows, knows_on, knows_next, phi_fills, phi_known, op_fills, op_known}

module _ (it : SoundFunc) (sound : IsSound it) (spots : PathSpots) (are : AreSpotsOf it spots) (path : List ℕ) where
  abbrev Points : Type 1
  Points = List ℤ → Type 0

  abbrev Are : List Owner → List Placed → Type 0
  Are owners placed = AllZip (IsPieceOf it spots) owners placed

  abbrev Filled : Points → Placed → Points
  Filled Known one point = Known point × AreIn one.first (ranges one.piece) point

  abbrev KnowsAt : Points → ℕ → List Item → Type 0
  KnowsAt Known at front = Knows it sound spots are path Known at front

  -- ---- the items of a block

  module _ (at : ℕ) (low : at < length it.flow.order) (later : List Owner) (continue : (Known : Points) → KnowsAt Known at (items_of (block_at it at)) → (placed : List Placed) → Are later placed → AreReady Known placed) where
    abbrev block : Block
    block = block_at it at

    abbrev owners : List Item → List Owner
    owners items = flat_map (item_owner at) items ++ later

    abbrev Ready : List Item → Type 1
    Ready rest = (front : List Item) → items_of block ≡ front ++ rest → (Known : Points) → KnowsAt Known at front → (placed : List Placed) → Are (owners rest) placed → AreReady Known placed

    next_items : (front rest : List Item) (item : Item) → items_of block ≡ front ++ item ∷ rest → items_of block ≡ (front ++ item ∷ []) ++ rest
    next_items front rest item items = items ∙ sym (append_assoc front (item ∷ []) rest)

    phi_ready : (phi : Phi) (rest : List Item) → Contains block.phis phi → Ready rest → Ready (OfPhi phi ∷ rest)
    phi_ready phi rest inside more front items Known knows [] all = absurd all
    phi_ready phi rest inside more front items Known knows (one ∷ placed) all = (
      phi_fills it sound spots are path at low front rest phi items inside Known knows one all.0,
      more (front ++ OfPhi phi ∷ []) (next_items front rest (OfPhi phi) items) (Filled Known one) (phi_known it sound spots are path at low front rest phi items inside Known knows one all.0) placed all.1,
    )

    instr_ready : (instr : Instr) (rest : List Item) → Contains block.body instr → Ready rest → Ready (OfInstr instr ∷ rest)
    instr_ready instr rest inside more front items Known knows placed all = by_width (result_width instr.op) refl placed all
      where
        by_width : (width : Option ℕ) → result_width instr.op ≡ width → (placed : List Placed) → Are ((op_owner instr (result_width instr.op) ++ flat_map (item_owner at) rest) ++ later) placed → AreReady Known placed
        by_width None is placed all =
            let none = subst (λ (o : Option ℕ). Are ((op_owner instr o ++ flat_map (item_owner at) rest) ++ later) placed) is all in
            more (front ++ OfInstr instr ∷ []) (next_items front rest (OfInstr instr) items) Known
            (knows_on it sound spots are path Known at front (OfInstr instr) (ap (λ (o : Option ℕ). option_to_list (option_map (λ (w : ℕ). instr.name) o)) is) knows) placed none
        by_width (Some width) is placed all = by_placed placed (subst (λ (o : Option ℕ). Are ((op_owner instr o ++ flat_map (item_owner at) rest) ++ later) placed) is all)
          where
            by_placed : (placed : List Placed) → Are (OpOwner instr ∷ owners rest) placed → AreReady Known placed
            by_placed [] all = absurd all
            by_placed (one ∷ placed) all = (
              op_fills it sound spots are path at low front rest instr items inside width is Known knows one all.0,
              more (front ++ OfInstr instr ∷ []) (next_items front rest (OfInstr instr) items) (Filled Known one) (op_known it sound spots are path at low front rest instr items inside width is Known knows one all.0) placed all.1,
            )

    end_ready : Ready (OfEnd block.end ∷ [])
    end_ready front items Known knows placed all =
        continue Known (subst (KnowsAt Known at) (sym items) (knows_on it sound spots are path Known at front (OfEnd block.end) refl knows)) placed all

    body_ready : (body : List Instr) → ((instr : Instr) → Contains body instr → Contains block.body instr) → Ready (map OfInstr body ++ OfEnd block.end ∷ [])
    body_ready [] inside = end_ready
    body_ready (instr ∷ body) inside =
        instr_ready instr (map OfInstr body ++ OfEnd block.end ∷ []) (inside instr (in_here instr body)) (body_ready body (λ other there. inside other (in_there instr other body there)))

    phis_ready : (phis : List Phi) → ((phi : Phi) → Contains phis phi → Contains block.phis phi) → Ready (map OfPhi phis ++ (map OfInstr block.body ++ OfEnd block.end ∷ []))
    phis_ready [] inside = body_ready block.body (λ instr there. there)
    phis_ready (phi ∷ phis) inside =
        phi_ready phi (map OfPhi phis ++ (map OfInstr block.body ++ OfEnd block.end ∷ [])) (inside phi (in_here phi phis)) (phis_ready phis (λ other there. inside other (in_there phi other phis there)))

    pub block_ready : (Known : Points) → KnowsAt Known at [] → (placed : List Placed) → Are (block_owners it at ++ later) placed → AreReady Known placed
    block_ready Known knows placed all = phis_ready block.phis (λ phi there. there) [] refl Known knows placed all

  -- ---- the blocks from a position on

  blocks_ready : (count at : ℕ) → at + count ≡ length it.flow.order → (Known : Points) → KnowsAt Known at [] → (placed : List Placed) → Are (flat_map (block_owners it) (range_with_len at count)) placed → AreReady Known placed
  blocks_ready zero at last Known knows [] all = tt
  blocks_ready zero at last Known knows (one ∷ placed) all = absurd all
  blocks_ready (suc count) at last Known knows placed all =
      let rest = flat_map (block_owners it) (range_with_len (at + 1) count) in
      block_ready at (omega (arith, last)) rest
      (λ Next next placed all. blocks_ready count (at + 1) (omega (arith, last)) Next (knows_next it sound spots are path Next at next) placed all)
      Known knows placed all

  -- ---- the parameters

  abbrev params : List Param
  params = it.func.params

  abbrev IsMarked : List ℤ → Param → Type 0
  IsMarked point param = IsMark (number_at point (name_vars it spots param.name).mark)

  record KnowsParams (Known : Points) (done : List Param) : Type 0 where
    pub ready : (point : List ℤ) → Known point → IsReady it spots path point
    pub marks : (point : List ℤ) → Known point → (param : Param) → Contains done param → IsMarked point param

  marks_more : (Known More : Points) (done : List Param) (param : Param) → ((point : List ℤ) → More point → Known point × IsMarked point param) → KnowsParams Known done → KnowsParams More (done ++ param ∷ [])
  marks_more Known More done param more knows = record {
    ready = λ point is. knows.ready point (more point is).0;
    marks = λ point is other there. ⊎_elim (λ earlier. knows.marks point (more point is).0 other earlier)
        (λ own. ⊎_elim (λ same. subst (IsMarked point) same (more point is).1) (λ none. absurd (no_item other none)) (cons_cases param [] other own))
        (Contains-append_cases done (param ∷ []) other there);
  }

  -- a parameter without a range has the mark 0
  unmarked : (point : List ℤ) → IsReady it spots path point → (param : Param) → Contains params param → param.range ≡ None → IsMarked point param
  unmarked point ready param there none =
      let zero : number_at point (name_vars it spots param.name).mark ≡ pos 0 = ap (number_at point) (ready.unranged param there none) ∙ ready.numbers.zero_is in
      (omega (arith, ints, zero), omega (arith, ints, zero))

  range_fills : (param : Param) → Contains params param → (range : Range) (one : Placed) → IsPieceOf it spots (RangeOwner param range) one → (point : List ℤ) → IsReady it spots path point → CanFill one.piece point
  range_fills param there range one is point ready =
      (of_some (λ (p : IrPiece). CanFill p point × CanSay p point) (range_piece (Some range) param.width (name_vars it spots param.name).number) one.piece is.piece
      (range_takes range param.width (name_vars it spots param.name).number point (ready.arguments param there))).0

  module _ (later : List Owner) (continue : (Known : Points) → KnowsParams Known params → (placed : List Placed) → Are later placed → AreReady Known placed) where
    abbrev others : List Param → List Owner
    others rest = flat_map (λ (param : Param). range_owner param param.range) rest ++ later

    abbrev More : (done rest : List Param) → Param → Type 1
    More done rest param = (Known : Points) → KnowsParams Known (done ++ param ∷ []) → (placed : List Placed) → Are (others rest) placed → AreReady Known placed

    params_ready : (done rest : List Param) → params ≡ done ++ rest → (Known : Points) → KnowsParams Known done → (placed : List Placed) → Are (flat_map (λ (param : Param). range_owner param param.range) rest ++ later) placed → AreReady Known placed
    params_ready done [] all_are Known knows placed all = continue Known (subst (KnowsParams Known) (sym (all_are ∙ append-nil done)) knows) placed all
    params_ready done (param ∷ rest) all_are Known knows placed all =
        by_range param.range refl placed all (params_ready (done ++ param ∷ []) rest (all_are ∙ sym (append_assoc done (param ∷ []) rest)))
      where
        there : Contains params param
        there = subst (λ (l : List Param). Contains l param) (sym all_are) (Contains-append_right done (param ∷ rest) param (in_here param rest))

        by_range : (range : Option Range) → param.range ≡ range → (placed : List Placed) → Are ((range_owner param param.range ++ flat_map (λ (param : Param). range_owner param param.range) rest) ++ later) placed → More done rest param → AreReady Known placed
        by_range None is placed all more =
            more Known (marks_more Known Known done param (λ point known. (known, unmarked point (knows.ready point known) param there is)) knows) placed
            (subst (λ (o : Option Range). Are ((range_owner param o ++ flat_map (λ (param : Param). range_owner param param.range) rest) ++ later) placed) is all)
        by_range (Some range) is placed all more = by_placed placed (subst (λ (o : Option Range). Are ((range_owner param o ++ flat_map (λ (param : Param). range_owner param param.range) rest) ++ later) placed) is all)
          where
            by_placed : (placed : List Placed) → Are (RangeOwner param range ∷ others rest) placed → AreReady Known placed
            by_placed [] all = absurd all
            by_placed (one ∷ placed) all = (
              λ point known. range_fills param there range one all.0 point (knows.ready point known),
              more (Filled Known one) (marks_more Known (Filled Known one) done param (λ point known. (known.0, range_mark it spots point one known.1 param range all.0)) knows) placed all.1,
            )

  -- with all arguments known, the entry can begin
  knows_entry : (Known : Points) → KnowsParams Known params → KnowsAt Known 0 []
  knows_entry Known knows = record {
    ready = knows.ready;
    values = λ point is name width there given. by_given point is name width there given;
  }
    where
      param_value : (point : List ℤ) → Known point → (param : Param) → Contains params param → IsValue param.width (name_vars it spots param.name) point
      param_value point is param there = record { number = (knows.ready point is).arguments param there; mark = knows.marks point is param there }

      by_given : (point : List ℤ) → Known point → (name : List ℕ) (width : ℕ) → IsValueOf it sound spots are path name width → GivenAt it sound spots are path 0 [] name → IsValue width (name_vars it spots name) point
      by_given point is name width there (inr none) = absurd (no_item name none)
      by_given point is name width there (inl (inr (block, is_before, of_block))) = absurd (omega (arith, is_before.below))
      by_given point is name width there (inl (inl named)) =
          let param = map_in (λ (param : Param). param.name) params name named in
          let own : IsValueOf it sound spots are path param.0.name param.0.width = Contains-append_left (map (λ (p : Param). (p.name, p.width)) params) (flat_map block_values it.func.blocks) (param.0.name, param.0.width) (in_map (λ (p : Param). (p.name, p.width)) params param.0 param.1) in
          let mine : IsValue param.0.width (name_vars it spots param.0.name) point = param_value point is param.0 param.1 in
          subst (λ (n : List ℕ). IsValue width (name_vars it spots n) point) param.2
          (any_width it sound spots are path param.0.name param.0.width width point own (subst (λ (n : List ℕ). IsValueOf it sound spots are path n width) (sym param.2) there) mine)

  pub all_ready : (placed : List Placed) → ArePiecesOf it spots placed → AreReady (IsReady it spots path) placed
  all_ready placed all =
      params_ready (flat_map (block_owners it) (range_with_len 0 (length it.flow.order)))
      (λ Known knows placed all. blocks_ready (length it.flow.order) 0 (omega arith) Known (knows_entry Known knows) placed all)
      [] params refl (IsReady it spots path) (record { ready = λ point is. is; marks = λ point is param none. absurd (no_item param none) }) placed all
