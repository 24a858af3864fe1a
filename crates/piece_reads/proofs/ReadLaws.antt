-- The pieces of an operation and of a phi over spots that agree on what is given before.
use Rattle.std.proofs.Common.{◌≡◌, inl, ℕ, eqb, List, [], ◌∷◌, map, Option, Some, refl, sym, ◌∙◌, ap, subst}
use Rattle.std.specs.Prelude.{Contains, zip, filter}
use Rattle.std.specs.Option.{unwrap_or}
use Rattle.std.proofs.lemmas.Bool.{eqb-true}
use Rattle.flow_graph.specs.Paths.{HasEdge}
use Rattle.ll_tree.specs.declared.block.Block.{Block}
use Rattle.ll_tree.specs.declared.block.Phi.{Phi}
use Rattle.ll_tree.specs.declared.block.PhiEntry.{PhiEntry}
use Rattle.ll_tree.specs.declared.block.Instr.{Instr}
use Rattle.ll_tree.specs.declared.block.Operand.{Operand}
use Rattle.ll_tree.specs.declared.block.Operand.TheVariants as operand
use Rattle.ll_tree.specs.declared.op.Op.{Op}
use Rattle.ll_tree.specs.declared.op.Op.TheVariants.{Bin, Cmp, Cast, Select, Abs, Assume}
use Rattle.ll_rules.specs.Items.{Item, OfPhi, OfInstr, Use, op_parts}
use Rattle.ll_flow.specs.Paths.{GoesTo}
use Rattle.ll_flow.proofs.PlaceLaws.{goes}
use Rattle.ll_links.specs.Links.{op_operands, operand_for}
use Rattle.ll_verifier.specs.declared.order.PositionEdge.{PositionEdge}
use Rattle.ll_verifier.specs.Order.{position_edge}
use Rattle.ll_verifier.specs.Sound.{SoundFunc, IsSound}
use Rattle.ir_runs.proofs.MemberLaws.{in_here, in_there, in_map, map_in}
use Rattle.ir_runs.proofs.EntryLaws.{entry_for}
use Rattle.portion_cuts.specs.Paths.{place_at, label_at}
use Rattle.portion_cuts.proofs.LabelLaws.{edge_within}
use Rattle.ir_pieces.specs.declared.piece.IrPiece.{IrPiece}
use Rattle.ir_pieces.specs.Choice.{literal_of}
use Rattle.path_encoding.specs.declared.spots.PathSpots.{PathSpots}
use Rattle.path_encoding.specs.Spots.{operand_vars, edge_vars, value_vars, constant_var, block_at}
use Rattle.path_encoding.proofs.MemberLaws.{first_in, member_of, passes_of}
use Rattle.point_runs.proofs.BlocksLaws.{label_is, block_there}
use Rattle.value_pieces.specs.Pieces.{operand_of, operands_of, coming_from, incoming_of, edges_into, IsPhiPiece}
use Rattle.piece_values.proofs.OrderLaws.{used_before, entry_before}
use Rattle.piece_reads.specs.Given.{given_before, StandsBehind, AgreeOn}
use Rattle.piece_reads.proofs.GivenLaws.{given_there}

-- two maps that agree on the members of a list
pub map_on : {X Y : Type 0} (f g : X → Y) (xs : List X) → ((x : X) → Contains xs x → f x ≡ g x) → map f xs ≡ map g xs
map_on f g [] same = refl
map_on f g (x ∷ xs) same =
    let here = same x (in_here x xs) in
    let rest = map_on f g xs (λ other there. same other (in_there x other xs there)) in
    λ i. here i ∷ rest i

-- ---- operands

abbrev Used : Type 0
Used = Operand × ℕ

used_of : (uses : List Used) (asked : Operand) → Contains (map (λ (used : Used). used.0) uses) asked → (width : ℕ) × Contains (map (λ (used : Used). Use used.0 used.1) uses) (Use asked width)
used_of uses asked there =
    let found = map_in (λ (used : Used). used.0) uses asked there in
    (found.0.1, subst (λ (o : Operand). Contains (map (λ (used : Used). Use used.0 used.1) uses) (Use o found.0.1)) found.2 (in_map (λ (used : Used). Use used.0 used.1) uses found.0 found.1))

-- an operand is used with some width
operand_used : (op : Op) (asked : Operand) → Contains (op_operands op) asked → (width : ℕ) × Contains (op_parts op) (Use asked width)
operand_used (Bin kind flags width left right) asked there = used_of ((left, width) ∷ (right, width) ∷ []) asked there
operand_used (Cmp pred flags width left right) asked there = used_of ((left, width) ∷ (right, width) ∷ []) asked there
operand_used (Cast kind flags from arg to) asked there = used_of ((arg, from) ∷ []) asked there
operand_used (Select width test first second) asked there = used_of ((test, 1) ∷ (first, width) ∷ (second, width) ∷ []) asked there
operand_used (Abs width arg strict) asked there = used_of ((arg, width) ∷ []) asked there
operand_used (Assume test) asked there = used_of ((test, 1) ∷ []) asked there

module _ (it : SoundFunc) (spots other : PathSpots) (names : List (List ℕ)) (agree : AgreeOn it names spots other) where
  pub same_vars : (asked : Operand) → ((name : List ℕ) → asked ≡ operand.Name name → Contains names name) → operand_vars it other asked ≡ operand_vars it spots asked
  same_vars (operand.Name name) given = agree.values name (given name refl)
  same_vars (operand.Const n) given = λ i. value_vars (constant_var (agree.constants i) n) 0
  same_vars operand.Poison given = refl

module _ (it : SoundFunc) (sound : IsSound it) (spots other : PathSpots) (at : ℕ) (front : List Item) (agree : AgreeOn it (given_before it at front) spots other) where
  abbrev same : (asked : Operand) → ((name : List ℕ) → asked ≡ operand.Name name → Contains (given_before it at front) name) → operand_vars it other asked ≡ operand_vars it spots asked
  same = same_vars it spots other (given_before it at front) agree

  module _ (instr : Instr) (stands : StandsBehind it at front (OfInstr instr)) where
    operand_same : (asked : Operand) → Contains (op_operands instr.op) asked → operand_of it other asked ≡ operand_of it spots asked
    operand_same asked there =
        let used = operand_used instr.op asked there in
        let vars_same = same asked (λ name is.
        given_there it sound at front name
        (used_before it sound at stands.within front stands.rest (OfInstr instr) stands.items (op_parts instr.op) (λ site. refl) name used.0
        (subst (λ (o : Operand). Contains (op_parts instr.op) (Use o used.0)) is used.1))) in
        λ i. record { vars = vars_same i; literal = literal_of asked }

    pub operands_same : operands_of it other instr.op ≡ operands_of it spots instr.op
    operands_same = map_on (operand_of it other) (operand_of it spots) (op_operands instr.op) operand_same

  -- ---- phis

  module _ (phi : Phi) (stands : StandsBehind it at front (OfPhi phi)) where
    abbrev block : Block
    block = block_at it at

    entry_from : (from : ℕ) → HasEdge it.flow.edges from at → (entry : PhiEntry) × Contains phi.entries entry × (entry.from ≡ label_at it from) × (operand_for (label_at it from) phi ≡ Some entry.value)
    entry_from from edge =
        let ends = (sound.flow.flow.edges.same from at).0 edge in
        let led = goes it.func (place_at it from) (place_at it at) ((sound.flow.edges (place_at it from) (place_at it at)).0 ends.2) in
        entry_for it.func sound.rules block (block_there it sound at stands.within) front stands.rest phi stands.items (label_at it from)
        (subst (λ (label : List ℕ). GoesTo it.func (label_at it from) label) (sym (label_is it sound at stands.within)) led.0)

    coming_same : (from : ℕ) → HasEdge it.flow.edges from at → coming_from it other from phi ≡ coming_from it spots from phi
    coming_same from edge =
        let entry = entry_from from edge in
        let from_low = (edge_within it sound from at edge).0 in
        let value_same = same entry.0.value (λ name is.
        given_there it sound at front name (inl (entry_before it sound at stands.within front stands.rest (OfPhi phi) stands.items phi refl from edge from_low entry.0 entry.1 entry.2 name is))) in
        subst (λ (o : Option Operand). operand_vars it other (unwrap_or o operand.Poison) ≡ operand_vars it spots (unwrap_or o operand.Poison)) (sym entry.3) value_same

    into_edge : (edge : PositionEdge × ℕ) → Contains (edges_into it spots at) edge → HasEdge it.flow.edges edge.0.from.0 at
    into_edge edge among =
        let inside = member_of (λ (e : PositionEdge × ℕ). eqb e.0.to.0 at) (edge_vars it spots) edge among in
        let here : edge.0.to.0 ≡ at = eqb-true edge.0.to.0 at (passes_of (λ (e : PositionEdge × ℕ). eqb e.0.to.0 at) (edge_vars it spots) edge among) in
        let (mine, there, is) = map_in position_edge it.flow.edges edge.0 (first_in (map position_edge it.flow.edges) spots.edges.items edge inside) in
        let named : mine ≡ record { from = edge.0.from.0; to = at } = λ i. record { from = (is i).from.0; to = (ap (λ (e : PositionEdge). e.to.0) is ∙ here) i } in
        subst (Contains it.flow.edges) named there

    incoming_same : map (incoming_of it other phi) (edges_into it other at) ≡ map (incoming_of it spots phi) (edges_into it spots at)
    incoming_same =
        let edges : edges_into it other at ≡ edges_into it spots at = λ i. filter (λ (e : PositionEdge × ℕ). eqb e.0.to.0 at) (zip (map position_edge it.flow.edges) (agree.edges i)) in
        let each : (edge : PositionEdge × ℕ) → Contains (edges_into it spots at) edge → incoming_of it other phi edge ≡ incoming_of it spots phi edge =
        λ edge among. let value = coming_same edge.0.from.0 (into_edge edge among) in (λ i. record { edge = edge.1; value = value i }) in
        ap (map (incoming_of it other phi)) edges ∙ map_on (incoming_of it other phi) (incoming_of it spots phi) (edges_into it spots at) each

    pub phi_same : (piece : IrPiece) → IsPhiPiece it spots at phi piece → IsPhiPiece it other at phi piece
    phi_same piece is = record { of = is.of; is = is.is; width = is.width; incoming = is.incoming ∙ sym incoming_same }
