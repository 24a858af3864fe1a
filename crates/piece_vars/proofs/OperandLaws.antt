-- The operands of a function's pieces: where blocks, edges, values and constants lie, and the numbers 0 and 1.
use Rattle.std.proofs.Common.{◌≡◌, ℕ, zero, suc, leb, eqb, nat_lt, Bool, true, false, List, [], ◌∷◌, map, Option, Some, None, sym, subst, get_or}
use Rattle.std.specs.Prelude.{Contains, All, IfSome}
use Rattle.std.specs.Option.{unwrap_or}
use Rattle.std.specs.Map.{lookup}
use Rattle.std.specs.List.{AllZip}
use Rattle.std.proofs.lemmas.Bool.{cond_both}
use Rattle.std.proofs.lemmas.Bool.Decides.{nat_tests}
use Rattle.std.proofs.lemmas.List.Elements.{All-head, All-tail, All-contains, All-map, All-weaker, All-contains_itself, recursion_from_All}
use Rattle.std.proofs.Common.{◌≤◌, arith}
use Rattle.ll_tree.specs.declared.block.Phi.{Phi}
use Rattle.ll_tree.specs.declared.block.Operand.{Operand}
use Rattle.ll_tree.specs.declared.block.Operand.TheVariants as operand
use Rattle.ll_tree.specs.declared.op.BinKind.{BinKind}
use Rattle.ll_tree.specs.declared.op.BinKind.TheVariants as bin
use Rattle.ll_tree.specs.declared.op.CastKind.{CastKind}
use Rattle.ll_tree.specs.declared.op.CastKind.TheVariants as cast
use Rattle.ll_tree.specs.declared.op.Flags.{Flags}
use Rattle.ll_tree.specs.declared.op.Op.{Op}
use Rattle.ll_tree.specs.declared.op.Op.TheVariants as op
use Rattle.ll_links.specs.declared.link.Source.{Source}
use Rattle.ll_links.specs.declared.link.Source.TheVariants as source
use Rattle.ll_links.specs.Links.{op_operands, operand_for}
use Rattle.ll_verifier.specs.declared.order.PositionEdge.{PositionEdge}
use Rattle.ll_verifier.specs.Order.{position_edge}
use Rattle.ll_verifier.specs.Sound.{SoundFunc}
use Rattle.portion_cuts.specs.Paths.{label_at}
use Rattle.wrap_rows.specs.declared.vars.ValueVars.{ValueVars}
use Rattle.bit_rows.specs.declared.bitwise.BitOperand.{BitOperand}
use Rattle.ir_pieces.specs.declared.piece.IrPiece.{IrPiece}
use Rattle.ir_pieces.specs.declared.list.Placed.{Placed}
use Rattle.ir_pieces.specs.Choice.{constant_of, operand_at, product_by, left_piece, right_piece, bin_piece, cast_piece, piece_of, range_piece}
use Rattle.path_encoding.specs.declared.spots.ConstSpot.{ConstSpot}
use Rattle.path_encoding.specs.declared.spots.PathSpots.{PathSpots}
use Rattle.path_encoding.specs.Spots.{value_vars, constant_among, constant_var, source_vars, source_at, edge_vars}
use Rattle.path_encoding.proofs.MemberLaws.{second_in, member_of}
use Rattle.value_pieces.specs.Pieces.{operand_of, operands_of, name_vars, incoming_of, edges_into, IsPhiPiece}
use Rattle.piece_values.specs.Owners.{Owner, RangeOwner, PhiOwner, OpOwner, IsPieceOf}
use Rattle.piece_vars.specs.Reads.{Both, ReadsEdge, Reads, AllRead}

module _ (Is : ℕ → Type 0) (zero_in : Is 0) (one_in : Is 1) where
  -- ---- what an operand stands for

  value_in : (values : List ValueVars) (at : ℕ) → All (Both Is) values → Both Is (get_or values at (value_vars 0 0))
  value_in [] at all = (zero_in, zero_in)
  value_in (vars ∷ values) zero all = All-head (Both Is) vars values all
  value_in (vars ∷ values) (suc at) all = value_in values at (All-tail (Both Is) vars values all)

  abbrev IsSpot : ConstSpot → Type 0
  IsSpot spot = Is spot.var

  abbrev pair_of : ConstSpot → ℕ × ℕ
  pair_of spot = (spot.value, spot.var)

  found_in : (test : ℕ → Bool) (constants : List ConstSpot) → All IsSpot constants → Is (unwrap_or (lookup test (map pair_of constants)) 0)
  found_in test [] all = zero_in
  found_in test (spot ∷ constants) all =
      cond_both (test spot.value) (Some spot.var) (lookup test (map pair_of constants)) (λ (found : Option ℕ). Is (unwrap_or found 0))
      (λ _. All-head IsSpot spot constants all) (λ _. found_in test constants (All-tail IsSpot spot constants all))

  small_in : (n : ℕ) → n ≤ 1 → Is n
  small_in zero few = zero_in
  small_in (suc zero) few = one_in
  small_in (suc (suc n)) few = absurd (omega (arith, few))

  constant_in : (constants : List ConstSpot) (n : ℕ) → All IsSpot constants → Is (constant_var constants n)
  constant_in constants n all =
      cond_both (leb n 1) n (constant_among constants n) Is
      (λ few. (let low : n ≤ 1 = grind (arith, nat_tests) in small_in n low)) (λ _. found_in (λ value. eqb value n) constants all)

  -- ---- the piece of an operation

  module _ (flags : Flags) (width : ℕ) (a b : BitOperand) (one : Both Is a.vars) (two : Both Is b.vars) where
    product_reads : (literal : Option ℕ) → Reads Is (product_by literal flags width a b)
    product_reads (Some factor) = (one, two.1)
    product_reads None = (two, one.1)

    left_reads : Reads Is (left_piece flags width a b)
    left_reads = cond_both (nat_lt (constant_of b) width) _ _ (Reads Is) (λ _. (one, two.1)) (λ _. tt)

    right_reads : (signed : Bool) → Reads Is (right_piece signed flags width a b)
    right_reads signed = cond_both (nat_lt (constant_of b) width) _ _ (Reads Is) (λ _. (one, two.1)) (λ _. tt)

    bin_reads : (of : BinKind) → Reads Is (bin_piece of flags width a b)
    bin_reads bin.Add = (one, two)
    bin_reads bin.Sub = (one, two)
    bin_reads bin.Mul = product_reads b.literal
    bin_reads bin.Shl = left_reads
    bin_reads bin.Lshr = right_reads false
    bin_reads bin.Ashr = right_reads true
    bin_reads bin.And = ((zero_in, one_in), one, two)
    bin_reads bin.Or = ((zero_in, one_in), one, two)
    bin_reads bin.Xor = ((zero_in, one_in), one, two)
    bin_reads bin.Udiv = (one, two.1)
    bin_reads bin.Sdiv = (one, two.1)
    bin_reads bin.Urem = (one, two.1)
    bin_reads bin.Srem = (one, two.1)
    bin_reads bin.Smin = (one, two)
    bin_reads bin.Smax = (one, two)
    bin_reads bin.Umin = (one, two)
    bin_reads bin.Umax = (one, two)

  cast_reads : (of : CastKind) (flags : Flags) (from to : ℕ) (a : BitOperand) → Both Is a.vars → Reads Is (cast_piece of flags from to a)
  cast_reads cast.Zext flags from to a one = one
  cast_reads cast.Sext flags from to a one = one
  cast_reads cast.Trunc flags from to a one = one

  op_reads : (what : Op) (operands : List BitOperand) → ((k : ℕ) → Both Is (operand_at operands k).vars) → IfSome (piece_of what operands) (Reads Is)
  op_reads (op.Bin of flags width left right) operands all = bin_reads flags width (operand_at operands 0) (operand_at operands 1) (all 0) (all 1) of
  op_reads (op.Cmp pred flags width left right) operands all = (all 0, all 1)
  op_reads (op.Cast of flags from arg to) operands all = cast_reads of flags from to (operand_at operands 0) (all 0)
  op_reads (op.Select width test one two) operands all = (all 0, all 1, all 2)
  op_reads (op.Abs width arg strict) operands all = all 0
  op_reads (op.Assume test) operands all = tt

  of_some : (found : Option IrPiece) (piece : IrPiece) → found ≡ Some piece → IfSome found (Reads Is) → Reads Is piece
  of_some found piece is reads = subst (λ o. IfSome o (Reads Is)) is reads

  -- ---- the pieces of a function

  module _ (it : SoundFunc) (spots : PathSpots) (edges : All Is spots.edges.items) (values : All (Both Is) spots.values.items) (constants : All IsSpot spots.constants.items) where
    source_in : (what : Source) → Both Is (source_vars spots what)
    source_in (source.Value id) = value_in spots.values.items id.0 values
    source_in (source.Const n) = (constant_in spots.constants.items n constants, zero_in)
    source_in source.Poison = (zero_in, one_in)

    asked_in : (asked : Operand) → Both Is (operand_of it spots asked).vars
    asked_in asked = source_in (source_at it.func asked)

    operand_in : (asked : List Operand) (k : ℕ) → Both Is (operand_at (map (operand_of it spots) asked) k).vars
    operand_in [] k = (zero_in, zero_in)
    operand_in (one ∷ asked) zero = asked_in one
    operand_in (one ∷ asked) (suc k) = operand_in asked k

    incoming_in : (at : ℕ) (phi : Phi) (edge : PositionEdge × ℕ) → Contains (edges_into it spots at) edge → ReadsEdge Is (incoming_of it spots phi edge)
    incoming_in at phi edge among =
        let inside = second_in (map position_edge it.flow.edges) spots.edges.items edge (member_of (λ (e : PositionEdge × ℕ). eqb e.0.to.0 at) (edge_vars it spots) edge among) in
        (All-contains Is spots.edges.items edge.1 edges inside, asked_in (unwrap_or (operand_for (label_at it edge.0.from.0) phi) operand.Poison))

    phi_reads : (at : ℕ) (phi : Phi) (piece : IrPiece) → IsPhiPiece it spots at phi piece → Reads Is piece
    phi_reads at phi piece is =
        let into = edges_into it spots at in
        let all : All (ReadsEdge Is) (map (incoming_of it spots phi) into) =
        All-map (ReadsEdge Is) (incoming_of it spots phi) into
        (All-weaker (Contains into) (λ edge. ReadsEdge Is (incoming_of it spots phi edge)) (incoming_in at phi) into (All-contains_itself into)) in
        subst (Reads Is) (sym is.is) (recursion_from_All (ReadsEdge Is) is.of.incoming.items (subst (All (ReadsEdge Is)) (sym is.incoming) all))

    piece_reads : (owner : Owner) (one : Placed) → IsPieceOf it spots owner one → Reads Is one.piece
    piece_reads (RangeOwner param range) one is =
        let vars = asked_in (operand.Name param.name) in
        of_some (range_piece (Some range) param.width (name_vars it spots param.name).number) one.piece is.piece vars.0
    piece_reads (PhiOwner at phi) one is = phi_reads at phi one.piece is.piece
    piece_reads (OpOwner instr) one is =
        of_some (piece_of instr.op (operands_of it spots instr.op)) one.piece is.piece
        (op_reads instr.op (operands_of it spots instr.op) (operand_in (op_operands instr.op)))

    pub all_read : (owners : List Owner) (placed : List Placed) → AllZip (IsPieceOf it spots) owners placed → AllRead Is placed
    all_read [] [] all = tt
    all_read [] (one ∷ placed) all = absurd all
    all_read (owner ∷ owners) [] all = absurd all
    all_read (owner ∷ owners) (one ∷ placed) all = (piece_reads owner one all.0, all_read owners placed all.1)
