-- Where a value stands that a piece computes: at the piece's own variables.
use Rattle.std.proofs.Common.{◌≡◌, ℕ, ◌+◌, ◌≤◌, nat_lt, Bool, true, false, List, [], ◌∷◌, Option, Some, None, refl, sym, subst, arith, ⊎_elim}
use Rattle.std.specs.Prelude.{Contains, IfSome}
use Rattle.std.proofs.lemmas.Bool.{cond_both}
use Rattle.ll_tree.specs.declared.op.BinKind.{BinKind}
use Rattle.ll_tree.specs.declared.op.BinKind.TheVariants as bin
use Rattle.ll_tree.specs.declared.op.CastKind.{CastKind}
use Rattle.ll_tree.specs.declared.op.CastKind.TheVariants as cast
use Rattle.ll_tree.specs.declared.op.Flags.{Flags}
use Rattle.ll_tree.specs.declared.op.Op.{Op}
use Rattle.ll_tree.specs.declared.op.Op.TheVariants as op
use Rattle.ll_flow.proofs.PlaceLaws.{no_item, cons_cases}
use Rattle.wrap_rows.specs.declared.vars.ValueVars.{ValueVars}
use Rattle.bit_rows.specs.declared.bitwise.BitOperand.{BitOperand}
use Rattle.ir_pieces.specs.declared.piece.IrPiece.{IrPiece}
use Rattle.ir_pieces.specs.declared.list.Placed.{Placed}
use Rattle.ir_pieces.specs.Pieces.{vars}
use Rattle.ir_pieces.specs.Lists.{end_of, ArePlaced}
use Rattle.ir_pieces.specs.Choice.{constant_of, operand_at, product_by, left_piece, right_piece, bin_piece, cast_piece, piece_of}
use Rattle.path_encoding.specs.Spots.{value_vars}

-- number and mark are its first two variables
abbrev pub IsFirst : IrPiece → Type 0
IsFirst piece = (first : ℕ) → vars piece first ≡ value_vars first (first + 1)

module _ (flags : Flags) (width : ℕ) (a b : BitOperand) where
  product_first : (literal : Option ℕ) → IsFirst (product_by literal flags width a b)
  product_first (Some factor) = λ first. refl
  product_first None = λ first. refl

  left_first : IsFirst (left_piece flags width a b)
  left_first = cond_both (nat_lt (constant_of b) width) _ _ IsFirst (λ _ first. refl) (λ _ first. refl)

  right_first : (signed : Bool) → IsFirst (right_piece signed flags width a b)
  right_first signed = cond_both (nat_lt (constant_of b) width) _ _ IsFirst (λ _ first. refl) (λ _ first. refl)

  bin_first : (of : BinKind) → IsFirst (bin_piece of flags width a b)
  bin_first bin.Add = λ first. refl
  bin_first bin.Sub = λ first. refl
  bin_first bin.Mul = product_first b.literal
  bin_first bin.Shl = left_first
  bin_first bin.Lshr = right_first false
  bin_first bin.Ashr = right_first true
  bin_first bin.And = λ first. refl
  bin_first bin.Or = λ first. refl
  bin_first bin.Xor = λ first. refl
  bin_first bin.Udiv = λ first. refl
  bin_first bin.Sdiv = λ first. refl
  bin_first bin.Urem = λ first. refl
  bin_first bin.Srem = λ first. refl
  bin_first bin.Smin = λ first. refl
  bin_first bin.Smax = λ first. refl
  bin_first bin.Umin = λ first. refl
  bin_first bin.Umax = λ first. refl

cast_first : (of : CastKind) (flags : Flags) (from to : ℕ) (a : BitOperand) → IsFirst (cast_piece of flags from to a)
cast_first cast.Zext flags from to a = λ first. refl
cast_first cast.Sext flags from to a = λ first. refl
cast_first cast.Trunc flags from to a = λ first. refl

op_first : (what : Op) (operands : List BitOperand) → IfSome (piece_of what operands) IsFirst
op_first (op.Bin of flags width left right) operands = bin_first flags width (operand_at operands 0) (operand_at operands 1) of
op_first (op.Cmp pred flags width left right) operands = λ first. refl
op_first (op.Cast of flags from arg to) operands = cast_first of flags from to (operand_at operands 0)
op_first (op.Select width test one two) operands = λ first. refl
op_first (op.Abs width arg strict) operands = λ first. refl
op_first (op.Assume test) operands = tt

-- of each piece of an operation
pub of_op : (what : Op) (operands : List BitOperand) (piece : IrPiece) → piece_of what operands ≡ Some piece → IsFirst piece
of_op what operands piece is = subst (λ (found : Option IrPiece). IfSome found IsFirst) is (op_first what operands)

-- ---- behind a variable

abbrev pub IsBehind : ℕ → ValueVars → Type 0
IsBehind to it = (to ≤ it.number) × (to ≤ it.mark)

placed_behind : (from to : ℕ) (placed : List Placed) (one : Placed) → ArePlaced from to placed → Contains placed one → from ≤ one.first
placed_behind from to [] one are there = absurd (no_item one there)
placed_behind from to (it ∷ placed) one are there =
    ⊎_elim (λ same. subst (λ (p : Placed). from ≤ p.first) same are.0) (λ later. omega (arith, are.0, placed_behind (end_of it) to placed one are.2 later)) (cons_cases it placed one there)

pub stands_behind : (from to : ℕ) (placed : List Placed) (one : Placed) → ArePlaced from to placed → Contains placed one → IsFirst one.piece → (at : ValueVars) → vars one.piece one.first ≡ at → IsBehind from at
stands_behind from to placed one are there is at stands =
    let least = placed_behind from to placed one are there in
    let behind : IsBehind from (vars one.piece one.first) = subst (IsBehind from) (sym (is one.first)) (least, omega (arith, least)) in
    subst (IsBehind from) stands behind
