-- The piece of an operation is one of the trait's, takes the operation's operands, and means what the operation computes.
use Rattle.std.proofs.Common.{◌≡◌, ℕ, Bool, true, false, cond, ◌||◌, nat_lt, ℤ, List, refl, sym, ap, ap₂, ◌∙◌, subst}
use Rattle.std.specs.Prelude.{Option, None, Some, IfSome, unsigned_abs}
use Rattle.std.specs.Option.{option_map, unwrap_or}
use Rattle.std.proofs.lemmas.Bool.{false≢true}
use Rattle.mix_system.specs.Row.{number_at}
use Rattle.ll_tree.specs.declared.block.Operand.{Operand}
use Rattle.ll_tree.specs.declared.block.Operand.TheVariants as operand
use Rattle.ll_tree.specs.declared.op.BinKind.{BinKind}
use Rattle.ll_tree.specs.declared.op.BinKind.TheVariants as bin
use Rattle.ll_tree.specs.declared.op.CastKind.{CastKind}
use Rattle.ll_tree.specs.declared.op.CastKind.TheVariants as cast
use Rattle.ll_tree.specs.declared.op.Flags.{Flags}
use Rattle.ll_tree.specs.declared.op.Op.{Op}
use Rattle.ll_tree.specs.declared.op.Op.TheVariants as op
use Rattle.ll_rules.specs.Arithmetic.{is_constant, are_linear, is_linear}
use Rattle.ir_meaning.specs.declared.value.Val.{Val}
use Rattle.ir_meaning.specs.Value.{poison_if, on_number, select_of}
use Rattle.ir_meaning.specs.Rows.{bin_of, cast_of, abs_of}
use Rattle.ir_meaning.specs.Compare.{cmp_of}
use Rattle.wrap_rows.specs.declared.vars.ValueVars.{ValueVars}
use Rattle.wrap_rows.specs.declared.scaled.Scale.TheVariants.{Shift}
use Rattle.wrap_rows.specs.declared.shift_out.ShiftKind.TheVariants.{Left}
use Rattle.bit_rows.specs.declared.bitwise.BitKind.{BitKind}
use Rattle.bit_rows.specs.declared.bitwise.BitKind.TheVariants.{And, Or, Xor}
use Rattle.bit_rows.specs.declared.bitwise.BitOperand.{BitOperand}
use Rattle.wrap_rows.specs.Vars.{is_marked, value_at}
use Rattle.bit_rows.specs.Bitwise.{IsLiteral}
use Rattle.ir_pieces.specs.declared.piece.IrPiece.{IrPiece}
use Rattle.ir_pieces.specs.declared.piece.IrPiece.TheVariants as kind
use Rattle.ir_pieces.specs.Pieces.{CanFill, CanSay, meaning}
use Rattle.ir_pieces.specs.Choice.{literal_of, constant_of, operand_at, right_kind, scaled_piece, shifted_out, product_by, bitwise_piece, bin_piece, cast_piece, piece_of, given_value, operand_value, value_of, computed, IsOperand, AreFactors, AreBoth, AreWithConstant, AreOfBin, AreNumbers, AreOperands, AreGiven}

-- ---- literals

-- a constant is a literal
literal_is : (written : Operand) → is_constant written ≡ true → (c : ℕ) × (literal_of written ≡ Some c)
literal_is (operand.Name name) constant = absurd (false≢true constant)
literal_is (operand.Const n) constant = (n, refl)
literal_is operand.Poison constant = (0, refl)

-- and what isn't a literal isn't a constant
no_constant : (written : Operand) → literal_of written ≡ None → is_constant written ≡ false
no_constant (operand.Name name) none = refl
no_constant (operand.Const n) none = cc
no_constant operand.Poison none = cc

-- of two factors one is a literal
factor_is : (left right : Operand) → are_linear bin.Mul (is_constant left) (is_constant right) ≡ true → literal_of right ≡ None → (c : ℕ) × (literal_of left ≡ Some c)
factor_is left right linear none = literal_is left (left_of (is_constant left) (is_constant right) linear (no_constant right none))
  where
    left_of : (l r : Bool) → (l || r) ≡ true → r ≡ false → l ≡ true
    left_of true r either is = refl
    left_of false r either is = absurd (false≢true (sym is ∙ either))

module _ (point : List ℤ) where
  -- an operand reads as its variables do
  reads-of : (literal : Option ℕ) (vars : ValueVars) → IsLiteral literal (number_at point vars.number) → value_at vars point ≡ given_value literal vars point
  reads-of None vars is = refl
  reads-of (Some n) vars is = ap (λ z. poison_if (is_marked vars point) (unsigned_abs z)) is

  reads : (width : ℕ) (given : BitOperand) → IsOperand width given point → value_at given.vars point ≡ operand_value given point
  reads width given is = reads-of given.literal given.vars is.literal

  -- a constant is its literal, or poison by its mark
  constant-reads : (given : BitOperand) (c : ℕ) → given.literal ≡ Some c → poison_if (is_marked given.vars point) (constant_of given) ≡ operand_value given point
  constant-reads given c is =
      subst (λ literal. poison_if (is_marked given.vars point) (unwrap_or literal 0) ≡ given_value literal given.vars point) (sym is) refl

  -- an operation of two operands that are read
  pub two : (f : Val → Val → Val) (width : ℕ) (a b : BitOperand) → AreBoth width a b point → f (value_at a.vars point) (value_at b.vars point) ≡ f (operand_value a point) (operand_value b point)
  two f width a b are = ap₂ f (reads width a are.0) (reads width b are.1)

  with_constant : (f : Val → Val → Val) (width c : ℕ) (a b : BitOperand) → b.literal ≡ Some c → AreWithConstant width a b point → f (value_at a.vars point) (poison_if (is_marked b.vars point) (constant_of b)) ≡ f (operand_value a point) (operand_value b point)
  with_constant f width c a b is are = ap₂ f (reads width a are.0) (constant-reads b c is)

  -- ---- what a piece means

  product-means : (literal : Option ℕ) (flags : Flags) (width : ℕ) (a b : BitOperand) → b.literal ≡ literal → (literal ≡ None → (c : ℕ) × (a.literal ≡ Some c)) → AreFactors literal width a b point
      → meaning (product_by literal flags width a b) point ≡ bin_of bin.Mul flags width (operand_value a point) (operand_value b point)
  product-means (Some factor) flags width a b is other are =
      ap₂ (bin_of bin.Mul flags width) (reads width a are.0)
      (subst (λ literal. poison_if (is_marked b.vars point) factor ≡ given_value literal b.vars point) (sym is) refl)
  product-means None flags width a b is other are =
      let factor = other refl in
      ap₂ (bin_of bin.Mul flags width) (constant-reads a factor.0 factor.1) (reads width b are.1)

  left-means : (test : Bool) (flags : Flags) (width c : ℕ) (a b : BitOperand) → b.literal ≡ Some c → AreWithConstant width a b point
      → meaning (cond test (scaled_piece (Shift (constant_of b)) flags width a b) (shifted_out Left flags width a b)) point ≡ bin_of bin.Shl flags width (operand_value a point) (operand_value b point)
  left-means true flags width c a b is are = with_constant (bin_of bin.Shl flags width) width c a b is are
  left-means false flags width c a b is are = with_constant (bin_of bin.Shl flags width) width c a b is are

  abbrev shift_kind : Bool → BinKind
  shift_kind false = bin.Lshr
  shift_kind true = bin.Ashr

  right-means : (test : Bool) (signed : Bool) (flags : Flags) (width c : ℕ) (a b : BitOperand) → b.literal ≡ Some c → AreWithConstant width a b point
      → meaning (cond test (kind.ShiftRight (record { signed = signed; flags = flags; width = width; amount = constant_of b; a = a.vars; amount_mark = b.vars.mark })) (shifted_out (right_kind signed) flags width a b)) point ≡ bin_of (shift_kind signed) flags width (operand_value a point) (operand_value b point)
  right-means true true flags width c a b is are = with_constant (bin_of bin.Ashr flags width) width c a b is are
  right-means true false flags width c a b is are = with_constant (bin_of bin.Lshr flags width) width c a b is are
  right-means false true flags width c a b is are = with_constant (bin_of bin.Ashr flags width) width c a b is are
  right-means false false flags width c a b is are = with_constant (bin_of bin.Lshr flags width) width c a b is are

  bin-means : (of : BinKind) (flags : Flags) (width : ℕ) (left right : Operand) (a b : BitOperand) → a.literal ≡ literal_of left → b.literal ≡ literal_of right
      → are_linear of (is_constant left) (is_constant right) ≡ true → AreOfBin of width a b point → meaning (bin_piece of flags width a b) point ≡ bin_of of flags width (operand_value a point) (operand_value b point)
  bin-means bin.Add flags width left right a b la lb linear are = two (bin_of bin.Add flags width) width a b are
  bin-means bin.Sub flags width left right a b la lb linear are = two (bin_of bin.Sub flags width) width a b are
  bin-means bin.Mul flags width left right a b la lb linear are =
      product-means b.literal flags width a b refl (λ none. let w = factor_is left right linear (sym lb ∙ none) in (w.0, la ∙ w.1)) are
  bin-means bin.Shl flags width left right a b la lb linear are =
      let w = literal_is right linear in left-means (nat_lt (constant_of b) width) flags width w.0 a b (lb ∙ w.1) are
  bin-means bin.Lshr flags width left right a b la lb linear are =
      let w = literal_is right linear in right-means (nat_lt (constant_of b) width) false flags width w.0 a b (lb ∙ w.1) are
  bin-means bin.Ashr flags width left right a b la lb linear are =
      let w = literal_is right linear in right-means (nat_lt (constant_of b) width) true flags width w.0 a b (lb ∙ w.1) are
  bin-means bin.And flags width left right a b la lb linear are = two (bin_of bin.And flags width) width a b are
  bin-means bin.Or flags width left right a b la lb linear are = two (bin_of bin.Or flags width) width a b are
  bin-means bin.Xor flags width left right a b la lb linear are = two (bin_of bin.Xor flags width) width a b are
  bin-means bin.Udiv flags width left right a b la lb linear are =
      let w = literal_is right linear in with_constant (bin_of bin.Udiv flags width) width w.0 a b (lb ∙ w.1) are
  bin-means bin.Sdiv flags width left right a b la lb linear are =
      let w = literal_is right linear in with_constant (bin_of bin.Sdiv flags width) width w.0 a b (lb ∙ w.1) are
  bin-means bin.Urem flags width left right a b la lb linear are =
      let w = literal_is right linear in with_constant (bin_of bin.Urem flags width) width w.0 a b (lb ∙ w.1) are
  bin-means bin.Srem flags width left right a b la lb linear are =
      let w = literal_is right linear in with_constant (bin_of bin.Srem flags width) width w.0 a b (lb ∙ w.1) are
  bin-means bin.Smin flags width left right a b la lb linear are = two (bin_of bin.Smin flags width) width a b are
  bin-means bin.Smax flags width left right a b la lb linear are = two (bin_of bin.Smax flags width) width a b are
  bin-means bin.Umin flags width left right a b la lb linear are = two (bin_of bin.Umin flags width) width a b are
  bin-means bin.Umax flags width left right a b la lb linear are = two (bin_of bin.Umax flags width) width a b are

  cast-means : (of : CastKind) (flags : Flags) (from to : ℕ) (a : BitOperand) → IsOperand from a point → meaning (cast_piece of flags from to a) point ≡ cast_of of flags from to (operand_value a point)
  cast-means cast.Zext flags from to a is = ap (cast_of cast.Zext flags from to) (reads from a is)
  cast-means cast.Sext flags from to a is = ap (cast_of cast.Sext flags from to) (reads from a is)
  cast-means cast.Trunc flags from to a is = ap (cast_of cast.Trunc flags from to) (reads from a is)

  pub means : (what : Op) (operands : List BitOperand) → is_linear what ≡ true → AreGiven what operands → AreOperands what operands point
      → option_map (λ piece. meaning piece point) (piece_of what operands) ≡ computed what (value_of operands point)
  means (op.Bin of flags width left right) operands linear given are =
      ap (λ (v : Val). Some v) (bin-means of flags width left right (operand_at operands 0) (operand_at operands 1) given.0 given.1 linear are)
  means (op.Cmp pred flags width left right) operands linear given are =
      ap (λ (v : Val). Some v) (two (cmp_of pred flags width) width (operand_at operands 0) (operand_at operands 1) are)
  means (op.Cast of flags from arg to) operands linear given are = ap (λ (v : Val). Some v) (cast-means of flags from to (operand_at operands 0) are)
  means (op.Select width test first second) operands linear given are =
      ap (λ (v : Val). Some v)
      (ap (λ c. select_of c (value_at (operand_at operands 1).vars point) (value_at (operand_at operands 2).vars point)) (reads 1 (operand_at operands 0) are.0)
      ∙ ap₂ (select_of (operand_value (operand_at operands 0) point)) (reads width (operand_at operands 1) are.1) (reads width (operand_at operands 2) are.2))
  means (op.Abs width arg strict) operands linear given are = ap (λ (v : Val). Some (on_number (abs_of strict width) v)) (reads width (operand_at operands 0) are)
  means (op.Assume test) operands linear given are = refl

  -- ---- what a piece takes

  abbrev Takes : IrPiece → Type 0
  Takes piece = CanFill piece point × CanSay piece point

  product-takes : (literal : Option ℕ) (flags : Flags) (width : ℕ) (a b : BitOperand) → AreFactors literal width a b point → Takes (product_by literal flags width a b)
  product-takes (Some factor) flags width a b are =
      (record { a = are.0.value; constant_mark = are.1.mark }, record { a = are.0.value; constant_mark = are.1.mark })
  product-takes None flags width a b are = (record { a = are.1.value; constant_mark = are.0.mark }, record { a = are.1.value; constant_mark = are.0.mark })

  left-takes : (test : Bool) (flags : Flags) (width : ℕ) (a b : BitOperand) → AreWithConstant width a b point → Takes (cond test (scaled_piece (Shift (constant_of b)) flags width a b) (shifted_out Left flags width a b))
  left-takes true flags width a b are = (record { a = are.0.value; constant_mark = are.1.mark }, record { a = are.0.value; constant_mark = are.1.mark })
  left-takes false flags width a b are = (tt, tt)

  right-takes : (test : Bool) (signed : Bool) (flags : Flags) (width : ℕ) (a b : BitOperand) → AreWithConstant width a b point
      → Takes (cond test (kind.ShiftRight (record { signed = signed; flags = flags; width = width; amount = constant_of b; a = a.vars; amount_mark = b.vars.mark })) (shifted_out (right_kind signed) flags width a b))
  right-takes true signed flags width a b are = (record { a = are.0.value; amount_mark = are.1.mark }, record { a = are.0.value; amount_mark = are.1.mark })
  right-takes false signed flags width a b are = (tt, tt)

  bits-take : (of : BitKind) (flags : Flags) (width : ℕ) (a b : BitOperand) → AreNumbers point → AreBoth width a b point → Takes (bitwise_piece of flags width a b)
  bits-take of flags width a b numbers are = (
    record { var_0 = numbers.zero_is; var_1 = numbers.one_is; a = are.0.value; b = are.1.value; a_literal = are.0.literal; b_literal = are.1.literal },
    record { var_0 = numbers.zero_is; var_1 = numbers.one_is; a = are.0.value; b = are.1.value; a_literal = are.0.literal; b_literal = are.1.literal },
  )

  bin-takes : (of : BinKind) (flags : Flags) (width : ℕ) (a b : BitOperand) → AreNumbers point → AreOfBin of width a b point → Takes (bin_piece of flags width a b)
  bin-takes bin.Add flags width a b numbers are = (record { a = are.0.value; b = are.1.value }, record { a = are.0.value; b = are.1.value })
  bin-takes bin.Sub flags width a b numbers are = (record { a = are.0.value; b = are.1.value }, record { a = are.0.value; b = are.1.value })
  bin-takes bin.Mul flags width a b numbers are = product-takes b.literal flags width a b are
  bin-takes bin.Shl flags width a b numbers are = left-takes (nat_lt (constant_of b) width) flags width a b are
  bin-takes bin.Lshr flags width a b numbers are = right-takes (nat_lt (constant_of b) width) false flags width a b are
  bin-takes bin.Ashr flags width a b numbers are = right-takes (nat_lt (constant_of b) width) true flags width a b are
  bin-takes bin.And flags width a b numbers are = bits-take And flags width a b numbers are
  bin-takes bin.Or flags width a b numbers are = bits-take Or flags width a b numbers are
  bin-takes bin.Xor flags width a b numbers are = bits-take Xor flags width a b numbers are
  bin-takes bin.Udiv flags width a b numbers are = (record { a = are.0.value; divisor_mark = are.1.mark }, record { a = are.0.value; divisor_mark = are.1.mark })
  bin-takes bin.Sdiv flags width a b numbers are = (record { a = are.0.value; divisor_mark = are.1.mark }, record { a = are.0.value; divisor_mark = are.1.mark })
  bin-takes bin.Urem flags width a b numbers are = (record { a = are.0.value; divisor_mark = are.1.mark }, record { a = are.0.value; divisor_mark = are.1.mark })
  bin-takes bin.Srem flags width a b numbers are = (record { a = are.0.value; divisor_mark = are.1.mark }, record { a = are.0.value; divisor_mark = are.1.mark })
  bin-takes bin.Smin flags width a b numbers are = (record { a = are.0.value; b = are.1.value }, record { a = are.0.value; b = are.1.value })
  bin-takes bin.Smax flags width a b numbers are = (record { a = are.0.value; b = are.1.value }, record { a = are.0.value; b = are.1.value })
  bin-takes bin.Umin flags width a b numbers are = (record { a = are.0.value; b = are.1.value }, record { a = are.0.value; b = are.1.value })
  bin-takes bin.Umax flags width a b numbers are = (record { a = are.0.value; b = are.1.value }, record { a = are.0.value; b = are.1.value })

  cast-takes : (of : CastKind) (flags : Flags) (from to : ℕ) (a : BitOperand) → IsOperand from a point → Takes (cast_piece of flags from to a)
  cast-takes cast.Zext flags from to a is = (is.value, is.value)
  cast-takes cast.Sext flags from to a is = (is.value, is.value)
  cast-takes cast.Trunc flags from to a is = (is.value, is.value)

  pub takes : (what : Op) (operands : List BitOperand) → AreNumbers point → AreOperands what operands point → IfSome (piece_of what operands) Takes
  takes (op.Bin of flags width left right) operands numbers are = bin-takes of flags width (operand_at operands 0) (operand_at operands 1) numbers are
  takes (op.Cmp pred flags width left right) operands numbers are = (record { a = are.0.value; b = are.1.value }, record { a = are.0.value; b = are.1.value })
  takes (op.Cast of flags from arg to) operands numbers are = cast-takes of flags from to (operand_at operands 0) are
  takes (op.Select width test first second) operands numbers are =
      (record { cond = are.0.value; yes = are.1.value; no = are.2.value }, record { cond = are.0.value; yes = are.1.value; no = are.2.value })
  takes (op.Abs width arg strict) operands numbers are = (are.value, are.value)
  takes (op.Assume test) operands numbers are = tt
