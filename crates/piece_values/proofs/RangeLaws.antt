-- Number and mark of a piece whose variables lie in their ranges are a value of its operation's width.
use Rattle.std.proofs.Common.{◌≡◌, ◌+◌, ◌-◌, ◌^◌, ◌<◌, ℕ, ℤ, pos, List, Bool, true, false, cond, Option, Some, None, subst, arith, sym}
use Rattle.std.specs.Prelude.{nat_lt}
use Rattle.std.proofs.lemmas.Int.{ints}
use Rattle.std.proofs.lemmas.Nat.{pow_pos}
use Rattle.std.proofs.lemmas.Option.{none-some, same_Some}
use Rattle.mix_system.specs.Fits.{IsInRange}
use Rattle.mix_system.specs.Row.{number_at}
use Rattle.ll_tree.specs.declared.op.BinKind.{BinKind}
use Rattle.ll_tree.specs.declared.op.BinKind.TheVariants as bin
use Rattle.ll_tree.specs.declared.op.CastKind.{CastKind}
use Rattle.ll_tree.specs.declared.op.CastKind.TheVariants as cast
use Rattle.ll_tree.specs.declared.op.Flags.{Flags}
use Rattle.ll_tree.specs.declared.op.Op.{Op}
use Rattle.ll_tree.specs.declared.op.Op.TheVariants.{Bin, Cmp, Cast, Select, Abs, Assume}
use Rattle.ll_rules.specs.Items.{result_width}
use Rattle.wrap_rows.specs.declared.vars.ValueVars.{ValueVars}
use Rattle.wrap_rows.specs.Piece.{AreIn}
use Rattle.wrap_rows.specs.Vars.{IsMark, IsValue}
use Rattle.bit_rows.specs.declared.bitwise.BitOperand.{BitOperand}
use Rattle.ir_pieces.specs.declared.piece.IrPiece.{IrPiece}
use Rattle.ir_pieces.specs.declared.piece.IrPiece.TheVariants as kind
use Rattle.wrap_rows.specs.declared.scaled.Scale.TheVariants.{Shift}
use Rattle.wrap_rows.specs.declared.shift_out.ShiftKind.TheVariants.{Left}
use Rattle.ir_pieces.specs.declared.list.Placed.{Placed}
use Rattle.ir_pieces.specs.Pieces.{ranges, vars}
use Rattle.ll_tree.specs.declared.func.Param.{Param}
use Rattle.ll_tree.specs.declared.func.Range.{Range}
use Rattle.ll_tree.specs.declared.block.Phi.{Phi}
use Rattle.ll_tree.specs.declared.block.Instr.{Instr}
use Rattle.ll_verifier.specs.Sound.{SoundFunc}
use Rattle.path_encoding.specs.declared.spots.PathSpots.{PathSpots}
use Rattle.value_pieces.specs.Pieces.{operands_of, name_vars}
use Rattle.piece_values.specs.Owners.{RangeOwner, PhiOwner, OpOwner, IsPieceOf}
use Rattle.ir_pieces.specs.Choice.{constant_of, operand_at, scaled_piece, product_by, shifted_out, right_kind, right_piece, bin_piece, cast_piece, piece_of}

abbrev own_vars : ℕ → ValueVars
own_vars first = record { number = first; mark = first + 1 }

pub value_in : (width first : ℕ) (point : List ℤ) → IsInRange (pos 0, pos (2 ^ width - 1)) (number_at point first) → IsInRange (pos 0, pos 1) (number_at point (first + 1)) → IsValue width (own_vars first) point
value_in width first point number mark =
    let some : 0 < 2 ^ width = omega (arith, pow_pos width) in
    record {
      number = (number.0, omega (arith, ints, number.1, some));
      mark = mark;
    }

module _ (first : ℕ) (point : List ℤ) where
  abbrev Fits : ℕ → IrPiece → Type 0
  Fits width piece = AreIn first (ranges piece) point → IsValue width (vars piece first) point

  either : (width : ℕ) (test : Bool) (one other : IrPiece) → Fits width one → Fits width other → Fits width (cond test one other)
  either width true one other fits fits_other = fits
  either width false one other fits fits_other = fits_other

  product : (literal : Option ℕ) (flags : Flags) (width : ℕ) (a b : BitOperand) → Fits width (product_by literal flags width a b)
  product (Some factor) flags width a b within = value_in width first point within.0 within.1.0
  product None flags width a b within = value_in width first point within.0 within.1.0

  right : (signed : Bool) (flags : Flags) (width : ℕ) (a b : BitOperand) → Fits width (right_piece signed flags width a b)
  right signed flags width a b =
      either width (nat_lt (constant_of b) width)
      (kind.ShiftRight (record { signed = signed; flags = flags; width = width; amount = constant_of b; a = a.vars; amount_mark = b.vars.mark }))
      (shifted_out (right_kind signed) flags width a b) (λ within. value_in width first point within.0 within.1.0) (λ within. value_in width first point within.0 within.1.0)

  of_bin : (of : BinKind) (flags : Flags) (width : ℕ) (a b : BitOperand) → Fits width (bin_piece of flags width a b)
  of_bin bin.Add flags width a b within = value_in width first point within.0 within.1.0
  of_bin bin.Sub flags width a b within = value_in width first point within.0 within.1.0
  of_bin bin.Mul flags width a b within = product b.literal flags width a b within
  of_bin bin.Shl flags width a b within = either width (nat_lt (constant_of b) width) (scaled_piece (Shift (constant_of b)) flags width a b) (shifted_out Left flags width a b) (λ in_range. value_in width first point in_range.0 in_range.1.0) (λ in_range. value_in width first point in_range.0 in_range.1.0) within
  of_bin bin.Lshr flags width a b within = right false flags width a b within
  of_bin bin.Ashr flags width a b within = right true flags width a b within
  of_bin bin.And flags width a b within = value_in width first point within.0 within.1.0
  of_bin bin.Or flags width a b within = value_in width first point within.0 within.1.0
  of_bin bin.Xor flags width a b within = value_in width first point within.0 within.1.0
  of_bin bin.Udiv flags width a b within = value_in width first point within.0 within.1.0
  of_bin bin.Sdiv flags width a b within = value_in width first point within.0 within.1.0
  of_bin bin.Urem flags width a b within = value_in width first point within.0 within.1.0
  of_bin bin.Srem flags width a b within = value_in width first point within.0 within.1.0
  of_bin bin.Smin flags width a b within = value_in width first point within.0 within.1.0
  of_bin bin.Smax flags width a b within = value_in width first point within.0 within.1.0
  of_bin bin.Umin flags width a b within = value_in width first point within.0 within.1.0
  of_bin bin.Umax flags width a b within = value_in width first point within.0 within.1.0

  of_cast : (of : CastKind) (flags : Flags) (from to : ℕ) (a : BitOperand) → Fits to (cast_piece of flags from to a)
  of_cast cast.Zext flags from to a within = value_in to first point within.0 within.1.0
  of_cast cast.Sext flags from to a within = value_in to first point within.0 within.1.0
  of_cast cast.Trunc flags from to a within = value_in to first point within.0 within.1.0

  fits : (own width : ℕ) → own ≡ width → (mine piece : IrPiece) → mine ≡ piece → Fits own mine → Fits width piece
  fits own width same mine piece is holds = subst (λ (w : ℕ). Fits w piece) same (subst (Fits own) is holds)

  pub op_fits : (op : Op) (operands : List BitOperand) (width : ℕ) → result_width op ≡ Some width → (piece : IrPiece) → piece_of op operands ≡ Some piece → Fits width piece
  op_fits (Bin of flags own left right) operands width has piece is =
      fits own width (same_Some own width has) (bin_piece of flags own (operand_at operands 0) (operand_at operands 1)) piece (same_Some _ piece is) (of_bin of flags own (operand_at operands 0) (operand_at operands 1))
  op_fits (Cmp pred flags own left right) operands width has piece is =
      fits 1 width (same_Some 1 width has) _ piece (same_Some _ piece is) (λ within. value_in 1 first point within.0 within.1.0)
  op_fits (Cast of flags from to_arg to) operands width has piece is =
      fits to width (same_Some to width has) (cast_piece of flags from to (operand_at operands 0)) piece (same_Some _ piece is) (of_cast of flags from to (operand_at operands 0))
  op_fits (Select own test one other) operands width has piece is =
      fits own width (same_Some own width has) _ piece (same_Some _ piece is) (λ within. value_in own first point within.0 within.1.0)
  op_fits (Abs own arg strict) operands width has piece is =
      fits own width (same_Some own width has) _ piece (same_Some _ piece is) (λ within. value_in own first point within.0 within.1.0)
  op_fits (Assume test) operands width has piece is = absurd (none-some width has)

-- ---- the value of an owner

-- a value stands at the variables of a piece
moved : (width : ℕ) (at to : ValueVars) (point : List ℤ) → at ≡ to → IsValue width at point → IsValue width to point
moved width at to point same is = subst (λ (v : ValueVars). IsValue width v point) same is

module _ (it : SoundFunc) (spots : PathSpots) (point : List ℤ) (one : Placed) (within : AreIn one.first (ranges one.piece) point) where
  pub phi_value : (at : ℕ) (phi : Phi) → IsPieceOf it spots (PhiOwner at phi) one → IsValue phi.width (name_vars it spots phi.name) point
  phi_value at phi is =
      let mine : AreIn one.first (ranges (kind.Phi is.piece.of)) point = subst (λ (p : IrPiece). AreIn one.first (ranges p) point) is.piece.is within in
      let value : IsValue is.piece.of.width (vars (kind.Phi is.piece.of) one.first) point = value_in is.piece.of.width one.first point mine.0 mine.1.0 in
      moved phi.width (vars one.piece one.first) (name_vars it spots phi.name) point is.stands
      (subst (λ (p : IrPiece). IsValue phi.width (vars p one.first) point) (sym is.piece.is) (subst (λ (w : ℕ). IsValue w (vars (kind.Phi is.piece.of) one.first) point) is.piece.width value))

  pub op_value : (instr : Instr) (width : ℕ) → result_width instr.op ≡ Some width → IsPieceOf it spots (OpOwner instr) one → IsValue width (name_vars it spots instr.name) point
  op_value instr width has is =
      moved width (vars one.piece one.first) (name_vars it spots instr.name) point is.stands (op_fits one.first point instr.op (operands_of it spots instr.op) width has one.piece is.piece within)

  pub range_mark : (param : Param) (range : Range) → IsPieceOf it spots (RangeOwner param range) one → IsMark (number_at point (name_vars it spots param.name).mark)
  range_mark param range is =
      let mine : IrPiece = kind.Ranged (record { width = param.width; low = range.lo; high = range.hi; number = (name_vars it spots param.name).number }) in
      let same : mine ≡ one.piece = same_Some mine one.piece is.piece in
      let own : AreIn one.first (ranges mine) point = subst (λ (p : IrPiece). AreIn one.first (ranges p) point) (sym same) within in
      let mark : IsMark (number_at point (vars mine one.first).mark) = (own.0.0, own.0.1) in
      subst (λ (v : ValueVars). IsMark (number_at point v.mark)) is.stands (subst (λ (p : IrPiece). IsMark (number_at point (vars p one.first).mark)) same mark)
