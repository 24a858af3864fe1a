-- The piece of a sound operation stands behind its operands.
use Rattle.std.proofs.Common.{◌≡◌, ◌≢◌, ℕ, ◌+◌, ◌-◌, ◌^◌, ◌<◌, ◌≤◌, Bool, true, false, cond, not, eqb, nat_lt, refl, sym, subst, arith, List}
use Rattle.std.specs.Prelude.{Option, None, Some, IfSome, nat_le}
use Rattle.std.specs.Option.{unwrap_or}
use Rattle.std.proofs.lemmas.Bool.{false≢true, eqb-false, and_parts, not-true}
use Rattle.std.proofs.lemmas.Bool.Decides.{nat_tests}
use Rattle.std.proofs.lemmas.Nat.{pow_pos}
use Rattle.ll_tree.specs.declared.block.Operand.{Operand}
use Rattle.ll_tree.specs.declared.block.Operand.TheVariants as operand
use Rattle.ll_tree.specs.declared.op.BinKind.{BinKind}
use Rattle.ll_tree.specs.declared.op.BinKind.TheVariants as bin
use Rattle.ll_tree.specs.declared.op.CastKind.{CastKind}
use Rattle.ll_tree.specs.declared.op.CastKind.TheVariants as cast
use Rattle.ll_tree.specs.declared.op.Flags.{Flags}
use Rattle.ll_tree.specs.declared.op.Op.{Op}
use Rattle.ll_tree.specs.declared.op.Op.TheVariants as op
use Rattle.ll_tree.specs.Formed.{FitsOperand}
use Rattle.ll_tree.specs.Formed as formed
use Rattle.ll_rules.specs.Arithmetic.{is_constant, are_linear, is_unsigned_divisor, is_signed_divisor, is_divisor}
use Rattle.ll_item_rules.specs.Widths.{cast_differs}
use Rattle.ir_meaning.specs.Whole.{IsWidth}
use Rattle.wrap_rows.specs.declared.scaled.Scale.TheVariants.{Shift}
use Rattle.wrap_rows.specs.declared.shift_out.ShiftKind.TheVariants.{Left}
use Rattle.bit_rows.specs.declared.bitwise.BitKind.{BitKind}
use Rattle.bit_rows.specs.declared.bitwise.BitKind.TheVariants.{And, Or, Xor}
use Rattle.bit_rows.specs.declared.bitwise.BitOperand.{BitOperand}
use Rattle.div_rows.specs.declared.division.DivisionKind.{DivisionKind}
use Rattle.div_rows.specs.declared.division.DivisionKind.TheVariants.{Quotient, Remainder}
use Rattle.ir_pieces.specs.declared.piece.IrPiece.TheVariants as kind
use Rattle.ir_pieces.specs.Pieces.{IsAt}
use Rattle.ir_pieces.specs.Choice.{literal_of, constant_of, operand_at, right_kind, scaled_piece, shifted_out, bitwise_piece, unsigned_piece, signed_piece, product_by, bin_piece, cast_piece, piece_of, StandsBefore, AreGiven, AllBefore, IsSoundOp}

is_width : (width : ℕ) → formed.IsWidth width → IsWidth width
is_width width is = record { least = is.0; greatest = is.1 }

-- ---- constants

constant_fits : (written : Operand) (given : BitOperand) (width : ℕ) → given.literal ≡ literal_of written → FitsOperand width written → constant_of given < 2 ^ width
constant_fits (operand.Name name) given width is fits =
    subst (λ literal. unwrap_or literal 0 < 2 ^ width) (sym is) (let some : 0 < 2 ^ width = omega (arith, pow_pos width) in some)
constant_fits (operand.Const n) given width is fits = subst (λ literal. unwrap_or literal 0 < 2 ^ width) (sym is) fits
constant_fits operand.Poison given width is fits =
    subst (λ literal. unwrap_or literal 0 < 2 ^ width) (sym is) (let some : 0 < 2 ^ width = omega (arith, pow_pos width) in some)

nonzero : (n : ℕ) → not (eqb n 0) ≡ true → 0 < n
nonzero n test = let apart : n ≢ 0 = eqb-false n 0 (not-true (eqb n 0) test) in omega (arith, apart)

unsigned_some : (written : Operand) (given : BitOperand) → given.literal ≡ literal_of written → is_constant written ≡ true → is_unsigned_divisor written ≡ true → 0 < constant_of given
unsigned_some (operand.Name name) given is constant divides = absurd (false≢true constant)
unsigned_some (operand.Const n) given is constant divides = subst (λ literal. 0 < unwrap_or literal 0) (sym is) (nonzero n divides)
unsigned_some operand.Poison given is constant divides = absurd (false≢true divides)

signed_some : (written : Operand) (given : BitOperand) (width : ℕ) → given.literal ≡ literal_of written → is_constant written ≡ true → is_signed_divisor width written ≡ true → 0 < constant_of given
signed_some (operand.Name name) given width is constant divides = absurd (false≢true constant)
signed_some (operand.Const n) given width is constant divides =
    subst (λ literal. 0 < unwrap_or literal 0) (sym is) (nonzero n (and_parts (not (eqb n 0)) (not (eqb n (2 ^ width - 1))) divides).0)
signed_some operand.Poison given width is constant divides = absurd (false≢true divides)

signed_below : (written : Operand) (given : BitOperand) (width : ℕ) → given.literal ≡ literal_of written → FitsOperand width written → is_constant written ≡ true → is_signed_divisor width written ≡ true → constant_of given + 1 < 2 ^ width
signed_below (operand.Name name) given width is fits constant divides = absurd (false≢true constant)
signed_below (operand.Const n) given width is fits constant divides =
    let test = (and_parts (not (eqb n 0)) (not (eqb n (2 ^ width - 1))) divides).1 in
    let apart : n ≢ 2 ^ width - 1 = eqb-false n (2 ^ width - 1) (not-true (eqb n (2 ^ width - 1)) test) in
    let below : n < 2 ^ width = fits in
    subst (λ literal. unwrap_or literal 0 + 1 < 2 ^ width) (sym is) (let less : n + 1 < 2 ^ width = omega (arith, apart, below) in less)
signed_below operand.Poison given width is fits constant divides = absurd (false≢true divides)

-- ---- pieces

module _ (first width : ℕ) (flags : Flags) (a b : BitOperand) (wide : IsWidth width) (one : StandsBefore first a) (two : StandsBefore first b) where
  product-stands : (literal : Option ℕ) → b.literal ≡ literal → constant_of a < 2 ^ width → constant_of b < 2 ^ width → IsAt (product_by literal flags width a b) first
  product-stands (Some factor) is left right = record {
    width = wide;
    scale = subst (λ l. unwrap_or l 0 < 2 ^ width) is right;
    a = one.number;
    a_mark = one.mark;
    constant_mark = two.mark;
  }
  product-stands None is left right = record { width = wide; scale = left; a = two.number; a_mark = two.mark; constant_mark = one.mark }

  left-stands : (test : Bool) → nat_lt (constant_of b) width ≡ test → IsAt (cond test (scaled_piece (Shift (constant_of b)) flags width a b) (shifted_out Left flags width a b)) first
  left-stands true is = record { width = wide; scale = below; a = one.number; a_mark = one.mark; constant_mark = two.mark }
    where
      below : constant_of b < width
      below = grind (arith, nat_tests)
  left-stands false is = record { width = wide; far = far }
    where
      far : width ≤ constant_of b
      far = grind (arith, nat_tests)

  right-stands : (test signed : Bool) → nat_lt (constant_of b) width ≡ test
      → IsAt (cond test (kind.ShiftRight (record { signed = signed; flags = flags; width = width; amount = constant_of b; a = a.vars; amount_mark = b.vars.mark })) (shifted_out (right_kind signed) flags width a b)) first
  right-stands true signed is = record { width = wide; below = below; a = one.number; a_mark = one.mark; amount_mark = two.mark }
    where
      below : constant_of b < width
      below = grind (arith, nat_tests)
  right-stands false signed is = record { width = wide; far = far }
    where
      far : width ≤ constant_of b
      far = grind (arith, nat_tests)

  bits-stand : (of : BitKind) → 1 < first → IsAt (bitwise_piece of flags width a b) first
  bits-stand of constants = record { width = wide; constants = constants; a = one.number; a_mark = one.mark; b = two.number; b_mark = two.mark }

  unsigned-stands : (of : DivisionKind) → 0 < constant_of b → constant_of b < 2 ^ width → IsAt (unsigned_piece of flags width a b) first
  unsigned-stands of some below = record { width = wide; some = some; divisor = below; a = one.number; a_mark = one.mark; divisor_mark = two.mark }

  signed-stands : (of : DivisionKind) → 0 < constant_of b → constant_of b + 1 < 2 ^ width → IsAt (signed_piece of flags width a b) first
  signed-stands of some below = record { width = wide; some = some; divisor = below; a = one.number; a_mark = one.mark; divisor_mark = two.mark }

  bin-stands : (of : BinKind) (left right : Operand) → FitsOperand width left → FitsOperand width right → a.literal ≡ literal_of left → b.literal ≡ literal_of right
      → are_linear of (is_constant left) (is_constant right) ≡ true → is_divisor of width right ≡ true → 1 < first → IsAt (bin_piece of flags width a b) first
  bin-stands bin.Add left right fa fb la lb linear divides constants = record { width = wide; a = one.number; a_mark = one.mark; b = two.number; b_mark = two.mark }
  bin-stands bin.Sub left right fa fb la lb linear divides constants = record { width = wide; a = one.number; a_mark = one.mark; b = two.number; b_mark = two.mark }
  bin-stands bin.Mul left right fa fb la lb linear divides constants = product-stands b.literal refl (constant_fits left a width la fa) (constant_fits right b width lb fb)
  bin-stands bin.Shl left right fa fb la lb linear divides constants = left-stands (nat_lt (constant_of b) width) refl
  bin-stands bin.Lshr left right fa fb la lb linear divides constants = right-stands (nat_lt (constant_of b) width) false refl
  bin-stands bin.Ashr left right fa fb la lb linear divides constants = right-stands (nat_lt (constant_of b) width) true refl
  bin-stands bin.And left right fa fb la lb linear divides constants = bits-stand And constants
  bin-stands bin.Or left right fa fb la lb linear divides constants = bits-stand Or constants
  bin-stands bin.Xor left right fa fb la lb linear divides constants = bits-stand Xor constants
  bin-stands bin.Udiv left right fa fb la lb linear divides constants = unsigned-stands Quotient (unsigned_some right b lb linear divides) (constant_fits right b width lb fb)
  bin-stands bin.Sdiv left right fa fb la lb linear divides constants = signed-stands Quotient (signed_some right b width lb linear divides) (signed_below right b width lb fb linear divides)
  bin-stands bin.Urem left right fa fb la lb linear divides constants = unsigned-stands Remainder (unsigned_some right b lb linear divides) (constant_fits right b width lb fb)
  bin-stands bin.Srem left right fa fb la lb linear divides constants = signed-stands Remainder (signed_some right b width lb linear divides) (signed_below right b width lb fb linear divides)
  bin-stands bin.Smin left right fa fb la lb linear divides constants = record { width = wide; a = one.number; a_mark = one.mark; b = two.number; b_mark = two.mark }
  bin-stands bin.Smax left right fa fb la lb linear divides constants = record { width = wide; a = one.number; a_mark = one.mark; b = two.number; b_mark = two.mark }
  bin-stands bin.Umin left right fa fb la lb linear divides constants = record { width = wide; a = one.number; a_mark = one.mark; b = two.number; b_mark = two.mark }
  bin-stands bin.Umax left right fa fb la lb linear divides constants = record { width = wide; a = one.number; a_mark = one.mark; b = two.number; b_mark = two.mark }

less_than : (n m : ℕ) → nat_le n m ≡ false → m < n
less_than n m fails = grind (arith, nat_tests)

cast-stands : (of : CastKind) (flags : Flags) (from to first : ℕ) (a : BitOperand) → IsWidth from → IsWidth to → cast_differs of from to ≡ false → StandsBefore first a → IsAt (cast_piece of flags from to a) first
cast-stands cast.Zext flags from to first a wide other converts one = record { from = wide; to = other; wider = less_than to from converts; number = one.number; mark = one.mark }
cast-stands cast.Sext flags from to first a wide other converts one = record { from = wide; to = other; wider = less_than to from converts; number = one.number; mark = one.mark }
cast-stands cast.Trunc flags from to first a wide other converts one = record { from = wide; to = other; narrower = less_than from to converts; number = one.number; mark = one.mark }

pub stands : (what : Op) (operands : List BitOperand) (first : ℕ) → IsSoundOp what → AreGiven what operands → AllBefore first operands → IfSome (piece_of what operands) (λ piece. IsAt piece first)
stands (op.Bin of flags width left right) operands first sound given before =
    bin-stands first width flags (operand_at operands 0) (operand_at operands 1) (is_width width sound.formed.0) before.one before.two of left right
    sound.formed.1 sound.formed.2 given.0 given.1 sound.linear sound.divides before.constants
stands (op.Cmp pred flags width left right) operands first sound given before =
    record { width = is_width width sound.formed.0; a = before.one.number; a_mark = before.one.mark; b = before.two.number; b_mark = before.two.mark }
stands (op.Cast of flags from arg to) operands first sound given before =
    cast-stands of flags from to first (operand_at operands 0) (is_width from sound.formed.0) (is_width to sound.formed.1) sound.converts before.one
stands (op.Select width test one two) operands first sound given before =
    record {
      width = is_width width sound.formed.0;
      cond = before.one.number;
      cond_mark = before.one.mark;
      yes = before.two.number;
      yes_mark = before.two.mark;
      no = before.three.number;
      no_mark = before.three.mark;
    }
stands (op.Abs width arg strict) operands first sound given before = record { width = is_width width sound.formed.0; a = before.one.number; a_mark = before.one.mark }
stands (op.Assume test) operands first sound given before = tt
