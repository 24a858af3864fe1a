-- A phi's piece says the operand for the block before.
use Rattle.std.proofs.Common.{◌≡◌, ◌<◌, ◌≤◌, ℕ, ℤ, List, [], ◌∷◌, ◌++◌, length, map, Option, Some, option_and_then, refl, sym, ◌∙◌, ap, subst}
use Rattle.std.specs.Prelude.{Contains, All}
use Rattle.std.specs.Option.{unwrap_or}
use Rattle.std.proofs.lemmas.List.Elements.{All-contains, All-contains_itself, All-map, All-weaker, Contains-append_left}
use Rattle.mix_system.specs.Row.{number_at}
use Rattle.ll_tree.specs.Formed.{FitsOperand, IsFormedBlock, IsFormedPhi}
use Rattle.ll_tree.specs.declared.block.Block.{Block}
use Rattle.ll_tree.specs.declared.block.Phi.{Phi}
use Rattle.ll_tree.specs.declared.block.PhiEntry.{PhiEntry}
use Rattle.ll_tree.specs.declared.block.Operand.{Operand}
use Rattle.ll_tree.specs.declared.block.Operand.TheVariants as operand
use Rattle.ll_rules.specs.Items.{OfPhi, OfInstr, OfEnd, items_of}
use Rattle.flow_graph.specs.Paths.{HasEdge}
use Rattle.ll_flow.specs.Paths.{GoesTo}
use Rattle.ll_flow.proofs.PlaceLaws.{goes}
use Rattle.ll_links.specs.Links.{operand_for}
use Rattle.ll_verifier.specs.declared.order.PositionEdge.{PositionEdge}
use Rattle.ll_verifier.specs.Order.{position_edge}
use Rattle.ll_verifier.specs.Sound.{SoundFunc, IsSound}
use Rattle.ir_runs.specs.Values.{Vals, operand_value, phi_value}
use Rattle.ir_runs.proofs.MemberLaws.{in_map}
use Rattle.ir_runs.proofs.EntryLaws.{entry_for}
use Rattle.ir_runs.proofs.BlockLaws.{split_at}
use Rattle.ir_constants.specs.Counted.{entries_of}
use Rattle.path_values.specs.Way.{told}
use Rattle.portion_cuts.specs.Paths.{place_at, label_at}
use Rattle.wrap_rows.specs.declared.phi.Phi.{Phi as PhiPiece}
use Rattle.wrap_rows.specs.declared.phi.Incoming.{Incoming}
use Rattle.wrap_rows.specs.Phi.{taken_count, taken_value, IsIncoming, CanFill, CanSay}
use Rattle.wrap_rows.specs.Vars.{IsMark, IsValue, value_at}
use Rattle.ir_pieces.specs.Choice.{literal_of, given_value, AreNumbers, IsOperand}
use Rattle.path_encoding.specs.declared.spots.PathSpots.{PathSpots}
use Rattle.path_encoding.specs.Spots.{operand_vars, block_at, AreSpotsOf}
use Rattle.path_encoding.specs.Paths.{Steps, IsTaken, AreMarks}
use Rattle.path_encoding.proofs.MemberLaws.{second_in}
use Rattle.path_encoding.proofs.GraphLaws.{edge_of}
use Rattle.point_runs.proofs.BlocksLaws.{label_is, block_there}
use Rattle.point_runs.specs.Told.{told_at}
use Rattle.value_pieces.specs.Pieces.{operand_of, name_vars, incoming_of, edges_into}
use Rattle.piece_values.specs.Known.{IsConst}
use Rattle.piece_values.proofs.OperandLaws.{is_operand, operand_said, read_of}
use Rattle.piece_values.proofs.EdgeLaws.{into_here, into_apart, at_most_one, taken_edge, one_edge, one_taken}

module _ (it : SoundFunc) (sound : IsSound it) (spots : PathSpots) (are : AreSpotsOf it spots) (point : List ℤ) (numbers : AreNumbers point) where
  abbrev said : Vals
  said = told (told_at it spots point)

  -- a phi of the block at a position whose entries' names are values, and whose constants stand at their variables
  module _ (at : ℕ) (low : at < length it.flow.order) (phi : Phi) (inside : Contains (block_at it at).phis phi)
      (named : (from : ℕ) → HasEdge it.flow.edges from at → (entry : PhiEntry) → Contains phi.entries entry → entry.from ≡ label_at it from → (name : List ℕ) → entry.value ≡ operand.Name name → IsValue phi.width (name_vars it spots name) point)
      (consts : (n : ℕ) → Contains (entries_of phi) (operand.Const n) → IsConst it spots point n) where
    abbrev block : Block
    block = block_at it at

    there : Contains it.func.blocks block
    there = block_there it sound at low

    item_inside : Contains (items_of block) (OfPhi phi)
    item_inside = Contains-append_left (map OfPhi block.phis) (map OfInstr block.body ++ OfEnd block.end ∷ []) (OfPhi phi) (in_map OfPhi block.phis phi inside)

    formed : IsFormedPhi phi
    formed =
        let of_block : IsFormedBlock block = All-contains IsFormedBlock it.func.blocks block sound.rules.formed.blocks there in
        All-contains IsFormedPhi block.phis phi of_block.phis inside

    abbrev value_of_entry : PhiEntry → Operand
    value_of_entry entry = entry.value

    -- an entry's operand for an edge is a value of the phi's width
    entry_is : (from : ℕ) → HasEdge it.flow.edges from at → (entry : PhiEntry) → Contains phi.entries entry → entry.from ≡ label_at it from → IsOperand phi.width (operand_of it spots entry.value) point
    entry_is from edge entry among comes_from =
        is_operand it spots point numbers phi.width entry.value
        (All-contains (λ (e : PhiEntry). FitsOperand phi.width e.value) phi.entries entry formed.2 among)
        (named from edge entry among comes_from)
        (λ n is. consts n (subst (Contains (entries_of phi)) is (in_map value_of_entry phi.entries entry among)))

    -- the entry for the block at a position from which an edge comes
    entry_from : (from : ℕ) → HasEdge it.flow.edges from at → (entry : PhiEntry) × Contains phi.entries entry × (entry.from ≡ label_at it from) × (operand_for (label_at it from) phi ≡ Some entry.value)
    entry_from from edge =
        let split = split_at (items_of block) (OfPhi phi) item_inside in
        let ends = (sound.flow.flow.edges.same from at).0 edge in
        let led = goes it.func (place_at it from) (place_at it at) ((sound.flow.edges (place_at it from) (place_at it at)).0 ends.2) in
        entry_for it.func sound.rules block there split.0 split.1 phi split.2 (label_at it from) (subst (λ (label : List ℕ). GoesTo it.func (label_at it from) label) (sym (label_is it sound at low)) led.0)

    incoming_is : AreMarks spots point → (edge : PositionEdge × ℕ) → Contains (edges_into it spots at) edge → IsIncoming phi.width point (incoming_of it spots phi edge)
    incoming_is marks edge among =
        let here = into_here it sound spots are at edge among in
        let has : HasEdge it.flow.edges edge.0.from.0 at = subst (HasEdge it.flow.edges edge.0.from.0) here.1 (edge_of it sound spots are edge here.0) in
        let entry = entry_from edge.0.from.0 has in
        let value : IsValue phi.width (operand_vars it spots entry.0.value) point = (entry_is edge.0.from.0 has entry.0 entry.1 entry.2).value in
        record {
          edge = All-contains (λ (var : ℕ). IsMark (number_at point var)) spots.edges.items edge.1 marks.edges (second_in (map position_edge it.flow.edges) spots.edges.items edge here.0);
          value = subst (λ (o : Option Operand). IsValue phi.width (operand_vars it spots (unwrap_or o operand.Poison)) point) (sym entry.3) value;
        }

    module _ (of : PhiPiece) (width : of.width ≡ phi.width) (incoming : of.incoming.items ≡ map (incoming_of it spots phi) (edges_into it spots at)) (marks : AreMarks spots point) where
      all_incoming : All (IsIncoming of.width point) of.incoming.items
      all_incoming =
          subst (λ (w : ℕ). All (IsIncoming w point) of.incoming.items) (sym width)
          (subst (All (IsIncoming phi.width point)) (sym incoming) (All-map (IsIncoming phi.width point) (incoming_of it spots phi) (edges_into it spots at)
          (All-weaker (Contains (edges_into it spots at)) (λ edge. IsIncoming phi.width point (incoming_of it spots phi edge)) (incoming_is marks) (edges_into it spots at) (All-contains_itself (edges_into it spots at)))))

      pub can_fill : (path : List ℕ) → IsTaken it spots point path → CanFill of point
      can_fill path is = record {
        incoming = all_incoming;
        at_most_one = subst (λ (l : List Incoming). taken_count point l ≤ 1) (sym incoming) (at_most_one it sound spots are at point path is (incoming_of it spots phi) (λ edge. refl));
      }

      module _ (path : List ℕ) (is : IsTaken it spots point path) (before : ℕ) (steps : Steps path before at) where
        one : (taken_count point (map (incoming_of it spots phi) (edges_into it spots at)) ≡ 1) × (taken_value point (map (incoming_of it spots phi) (edges_into it spots at)) ≡ value_at (incoming_of it spots phi (taken_edge it sound spots are at point path is before steps).0).value point)
        one =
            one_taken point (incoming_of it spots phi) (λ edge. refl) (edges_into it spots at) (taken_edge it sound spots are at point path is before steps).0 (into_apart it sound spots are at)
            (one_edge it sound spots are at point path is before steps (incoming_of it spots phi) (λ edge. refl))

        pub can_say : CanSay of point
        can_say = record {
          incoming = all_incoming;
          exactly_one = ap (taken_count point) incoming ∙ one.0;
        }

        pub phi_said : phi_value said (Some (label_at it before)) phi ≡ Some (taken_value point of.incoming.items)
        phi_said =
            let edge = taken_edge it sound spots are at point path is before steps in
            let here = into_here it sound spots are at edge.0 edge.1 in
            let has : HasEdge it.flow.edges before at = subst (λ (n : ℕ). HasEdge it.flow.edges n at) edge.2 (subst (HasEdge it.flow.edges edge.0.0.from.0) here.1 (edge_of it sound spots are edge.0 here.0)) in
            let entry = entry_from before has in
            let taken : taken_value point of.incoming.items ≡ value_at (operand_vars it spots (unwrap_or (operand_for (label_at it before) phi) operand.Poison)) point =
            ap (taken_value point) incoming ∙ one.1 ∙ ap (λ (n : ℕ). value_at (operand_vars it spots (unwrap_or (operand_for (label_at it n) phi) operand.Poison)) point) edge.2 in
            let read : value_at (operand_vars it spots entry.0.value) point ≡ given_value (literal_of entry.0.value) (operand_vars it spots entry.0.value) point =
            read_of point (literal_of entry.0.value) (operand_vars it spots entry.0.value) (entry_is before has entry.0 entry.1 entry.2).literal in
            ap (option_and_then (operand_value said)) entry.3
            ∙ operand_said it spots point numbers entry.0.value
            ∙ ap Some (sym read ∙ sym (ap (λ (o : Option Operand). value_at (operand_vars it spots (unwrap_or o operand.Poison)) point) entry.3) ∙ sym taken)
