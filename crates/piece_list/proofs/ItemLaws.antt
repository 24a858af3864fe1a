-- The piece of a phi and of an instruction: where it stands, and that it is kept.
use Rattle.std.proofs.Common.{◌≡◌, ◌<◌, ◌+◌, ◌^◌, ℕ, zero, suc, eqb, List, [], ◌∷◌, length, get_or, map, Option, Some, None, option_map, option_to_list, refl, sym, ◌∙◌, ap, subst, arith}
use Rattle.std.specs.Prelude.{Contains, All}
use Rattle.std.specs.Option.{IfSome, unwrap_or}
use Rattle.std.proofs.lemmas.List.{get_or-map}
use Rattle.std.proofs.lemmas.List.Elements.{All-contains, All-contains_itself, All-map, All-weaker}
use Rattle.std.proofs.lemmas.Option.{none-some}
use Rattle.ll_tree.specs.declared.block.Phi.{Phi}
use Rattle.ll_tree.specs.declared.block.Instr.{Instr}
use Rattle.ll_tree.specs.declared.block.Operand.{Operand}
use Rattle.ll_tree.specs.declared.block.Operand.TheVariants as operand
use Rattle.ll_tree.specs.declared.block.End.TheVariants as end
use Rattle.ll_tree.specs.declared.op.Op.{Op}
use Rattle.ll_tree.specs.declared.op.Op.TheVariants.{Bin, Cmp, Cast, Select, Abs, Assume}
use Rattle.ll_rules.specs.Items.{Item, OfPhi, OfInstr, OfEnd, items_of, labels_of, values_of, result_width}
use Rattle.ll_links.specs.declared.link.Links.{Links}
use Rattle.ll_links.specs.declared.link.ValueId.{ValueId}
use Rattle.ll_links.specs.Items.{items_at, item_at}
use Rattle.ll_links.specs.Links.{AreLinks, number_of, named_result, op_operands, result_of, operand_for}
use Rattle.ll_verifier.specs.declared.order.PositionEdge.{PositionEdge}
use Rattle.ll_verifier.specs.Order.{position_edge}
use Rattle.ll_verifier.specs.Sound.{SoundFunc, IsSound}
use Rattle.ir_meaning.specs.Whole.{IsWidth}
use Rattle.portion_cuts.specs.Paths.{place_at, label_at}
use Rattle.wrap_rows.specs.Phi.{StandsBefore}
use Rattle.bit_rows.specs.declared.bitwise.BitOperand.{BitOperand}
use Rattle.ir_pieces.specs.declared.piece.IrPiece.{IrPiece}
use Rattle.ir_pieces.specs.Pieces.{IsAt, ranges}
use Rattle.ir_pieces.specs.Choice.{operand_at, piece_of, AreGiven, AllBefore}
use Rattle.ir_pieces.specs.Choice as choice
use Rattle.ir_pieces.proofs.StandLaws.{stands}
use Rattle.path_encoding.specs.declared.spots.PathSpots.{PathSpots}
use Rattle.path_encoding.specs.Spots.{no_block, block_at, source_at, edge_vars, Exist}
use Rattle.path_encoding.proofs.MemberLaws.{second_in, member_of}
use Rattle.value_pieces.specs.Pieces.{operand_of, operands_of, incoming_of, edges_into, IsPhiPiece}
use Rattle.piece_values.specs.Owners.{PhiOwner, OpOwner, op_owner}
use Rattle.piece_reads.proofs.ReadLaws.{operands_same, phi_same}
use Rattle.piece_list.specs.declared.draft.Declared.{Declared}
use Rattle.piece_list.specs.Drafts.{IsKept, front_of, IsItem, IsDrafted, IsOver}
use Rattle.piece_list.proofs.BoundLaws.{Below, source_low}
use Rattle.piece_list.proofs.FormLaws.{sound_op, sound_phi}
use Rattle.piece_list.proofs.StepLaws.{behind, skipped, has_room, number_is, place_low, over}

of_some : {A : Type 0} (P : A → Type 0) (found : Option A) (a : A) → found ≡ Some a → IfSome found P → P a
of_some P found a is holds = subst (λ o. IfSome o P) is holds

-- ---- an item by its block's place

module _ (it : SoundFunc) (at item : ℕ) (what : Item) (here : IsItem it at item what) (place : ℕ) (place_is : place ≡ place_at it at) (place_low : place < length it.func.blocks) where
  items_are : items_at it.func.blocks place ≡ items_of (block_at it at)
  items_are = get_or-map items_of it.func.blocks place no_block [] place_low ∙ ap (λ (p : ℕ). items_of (get_or it.func.blocks p no_block)) place_is

  pub item_low : item < length (items_at it.func.blocks place)
  item_low = subst (λ (items : List Item). item < length items) (sym items_are) here.low

  pub item_is : item_at it.func.blocks place item ≡ what
  item_is = ap (λ (items : List Item). get_or items item (OfEnd end.Unreachable)) items_are ∙ here.is

  pub linked : (links : Links) → AreLinks (values_of it.func) (labels_of it.func) (item_at it.func.blocks place item) links → links.result ≡ result_of (values_of it.func) what
  linked links are = are.result ∙ ap (result_of (values_of it.func)) item_is

-- ---- operands stand before

module _ (it : SoundFunc) (bound : ℕ) (spots : PathSpots) (exist : Exist bound spots) where
  asked_low : (asked : Operand) → Below bound (operand_of it spots asked).vars
  asked_low asked = source_low bound exist.numbers spots (source_at it.func asked) exist.values exist.constants

  operand_before : (asked : List Operand) (k : ℕ) → choice.StandsBefore bound (operand_at (map (operand_of it spots) asked) k)
  operand_before [] k = record { number = omega (arith, exist.numbers); mark = omega (arith, exist.numbers) }
  operand_before (one ∷ asked) zero = record { number = (asked_low one).0; mark = (asked_low one).1 }
  operand_before (one ∷ asked) (suc k) = operand_before asked k

  all_before : (op : Op) → AllBefore bound (operands_of it spots op)
  all_before op = record {
    constants = omega (arith, exist.numbers);
    one = operand_before (op_operands op) 0;
    two = operand_before (op_operands op) 1;
    three = operand_before (op_operands op) 2;
  }

  are_given : (op : Op) → AreGiven op (operands_of it spots op)
  are_given (Bin kind flags width left right) = (refl, refl)
  are_given (Cmp pred flags width left right) = tt
  are_given (Cast kind flags from arg to) = tt
  are_given (Select width test first second) = tt
  are_given (Abs width arg strict) = tt
  are_given (Assume test) = tt

  -- an edge into a block with its operand
  incoming_before : (at : ℕ) (phi : Phi) (edge : PositionEdge × ℕ) → Contains (edges_into it spots at) edge → StandsBefore bound (incoming_of it spots phi edge)
  incoming_before at phi edge among =
      let inside = second_in (map position_edge it.flow.edges) spots.edges.items edge (member_of (λ (e : PositionEdge × ℕ). eqb e.0.to.0 at) (edge_vars it spots) edge among) in
      let value = asked_low (unwrap_or (operand_for (label_at it edge.0.from.0) phi) operand.Poison) in
      record {
        edge = All-contains (λ (var : ℕ). var < bound) spots.edges.items edge.1 exist.edges inside;
        number = value.0;
        mark = value.1;
      }

has_width : (op : Op) (operands : List BitOperand) (piece : IrPiece) → piece_of op operands ≡ Some piece → (width : ℕ) × (result_width op ≡ Some width)
has_width (Bin kind flags width left right) operands piece is = (width, refl)
has_width (Cmp pred flags width left right) operands piece is = (1, refl)
has_width (Cast kind flags from arg to) operands piece is = (to, refl)
has_width (Select width test first second) operands piece is = (width, refl)
has_width (Abs width arg strict) operands piece is = (width, refl)
has_width (Assume test) operands piece is = absurd (none-some piece is)

no_width : (op : Op) (operands : List BitOperand) → piece_of op operands ≡ None → result_width op ≡ None
no_width (Bin kind flags width left right) operands is = absurd (cc)
no_width (Cmp pred flags width left right) operands is = absurd (cc)
no_width (Cast kind flags from arg to) operands is = absurd (cc)
no_width (Select width test first second) operands is = absurd (cc)
no_width (Abs width arg strict) operands is = absurd (cc)
no_width (Assume test) operands is = refl

module _ (it : SoundFunc) (sound : IsSound it) (at item : ℕ) (base next : Declared) (drafted : IsDrafted it at (front_of it at item) base) where
  -- ---- a phi

  module _ (phi : Phi) (here : IsItem it at item (OfPhi phi)) (piece : IrPiece) (is : IsPhiPiece it base.spots at phi piece) where
    pub phi_at : IsAt piece (length base.system.ranges)
    phi_at =
        let bound = length base.system.ranges in
        let formed = sound_phi it sound at (front_of it at item) phi (behind it sound at item (OfPhi phi) here) in
        let edges = edges_into it base.spots at in
        let all : All (StandsBefore bound) is.of.incoming.items =
        subst (All (StandsBefore bound)) (sym is.incoming) (All-map (StandsBefore bound) (incoming_of it base.spots phi) edges
        (All-weaker (Contains edges) (λ edge. StandsBefore bound (incoming_of it base.spots phi edge)) (incoming_before it bound base.spots drafted.exist at phi) edges (All-contains_itself edges))) in
        subst (λ (p : IrPiece). IsAt p bound) (sym is.is)
        (record { width = subst IsWidth (sym is.width) (record { least = formed.0.0; greatest = formed.0.1 }); incoming = all })

    pub phi_over : (id : Option ValueId) → id ≡ number_of (values_of it.func) phi.name → IsKept base next id piece → IsOver it at (item + 1) base next
    phi_over id id_is kept =
        over it sound at item (OfPhi phi) here base next drafted piece phi_at phi.name refl (subst (λ (i : Option ValueId). IsKept base next i piece) id_is kept) (PhiOwner at phi) refl
        (λ spots agree own. record { stands = sym own; piece = phi_same it sound base.spots spots at (front_of it at item) agree phi (behind it sound at item (OfPhi phi) here) piece is })

    pub phi_there : (id : Option ValueId) → id ≡ number_of (values_of it.func) phi.name → IfSome id (λ id. id.0 < length base.spots.values.items)
    phi_there id id_is =
        subst (λ (i : Option ValueId). IfSome i (λ id. id.0 < length base.spots.values.items)) (sym (id_is ∙ number_is it sound at item (OfPhi phi) here base next drafted piece phi_at phi.name refl))
        (place_low it sound at item (OfPhi phi) here base next drafted piece phi_at phi.name refl)

    pub phi_room : length base.system.ranges + length (ranges piece) < 2 ^ 31
    phi_room = has_room it sound at item (OfPhi phi) here base next drafted piece phi_at

  -- ---- an instruction

  module _ (instr : Instr) (here : IsItem it at item (OfInstr instr)) where
    -- an assume
    pub instr_skipped : piece_of instr.op (operands_of it base.spots instr.op) ≡ None → IsOver it at (item + 1) base base
    instr_skipped is =
        let none = no_width instr.op (operands_of it base.spots instr.op) is in
        skipped it sound at item (OfInstr instr) here base drafted (ap (op_owner instr) none) (ap (λ (o : Option ℕ). option_to_list (option_map (λ (w : ℕ). instr.name) o)) none)

    module _ (piece : IrPiece) (is : piece_of instr.op (operands_of it base.spots instr.op) ≡ Some piece) where
      width : (width : ℕ) × (result_width instr.op ≡ Some width)
      width = has_width instr.op (operands_of it base.spots instr.op) piece is

      pub op_at : IsAt piece (length base.system.ranges)
      op_at =
          let bound = length base.system.ranges in
          of_some (λ (p : IrPiece). IsAt p bound) (piece_of instr.op (operands_of it base.spots instr.op)) piece is
          (stands instr.op (operands_of it base.spots instr.op) bound (sound_op it sound at (front_of it at item) instr (behind it sound at item (OfInstr instr) here)) (are_given it bound base.spots drafted.exist instr.op) (all_before it bound base.spots drafted.exist instr.op))

      named : option_to_list (option_map (λ (w : ℕ). instr.name) (result_width instr.op)) ≡ instr.name ∷ []
      named = ap (λ (o : Option ℕ). option_to_list (option_map (λ (w : ℕ). instr.name) o)) width.1

      id_of : (id : Option ValueId) → id ≡ result_of (values_of it.func) (OfInstr instr) → id ≡ number_of (values_of it.func) instr.name
      id_of id id_is = id_is ∙ ap (named_result (values_of it.func) instr.name) width.1

      pub instr_over : (id : Option ValueId) → id ≡ result_of (values_of it.func) (OfInstr instr) → IsKept base next id piece → IsOver it at (item + 1) base next
      instr_over id id_is kept =
          over it sound at item (OfInstr instr) here base next drafted piece op_at instr.name named (subst (λ (i : Option ValueId). IsKept base next i piece) (id_of id id_is) kept) (OpOwner instr) (ap (op_owner instr) width.1)
          (λ spots agree own. record {
            stands = sym own;
            piece = ap (piece_of instr.op) (operands_same it sound base.spots spots at (front_of it at item) agree instr (behind it sound at item (OfInstr instr) here)) ∙ is;
          })

      pub instr_there : (id : Option ValueId) → id ≡ result_of (values_of it.func) (OfInstr instr) → IfSome id (λ id. id.0 < length base.spots.values.items)
      instr_there id id_is =
          subst (λ (i : Option ValueId). IfSome i (λ id. id.0 < length base.spots.values.items)) (sym (id_of id id_is ∙ number_is it sound at item (OfInstr instr) here base next drafted piece op_at instr.name named))
          (place_low it sound at item (OfInstr instr) here base next drafted piece op_at instr.name named)

      pub instr_room : length base.system.ranges + length (ranges piece) < 2 ^ 31
      instr_room = has_room it sound at item (OfInstr instr) here base next drafted piece op_at
