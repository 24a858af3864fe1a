-- What an operation computes fits the width of its result.
use Rattle.std.proofs.Common.{◌≡◌, ◌+◌, ◌-◌, ◌/◌, ◌%◌, ◌^◌, ◌<◌, ℕ, Bool, true, false, cond, eqb, leb, ltb, min, max, arith, div-le_self, div-add-mod', ℤ, pos, ◌+ℤ◌, ◌-ℤ◌, ◌*ℤ◌, int_le}
use Rattle.std.proofs.lemmas.Bool.{cond_both, leb-false}
use Rattle.std.proofs.lemmas.Nat.{mod_below}
use Rattle.std.proofs.Math.Nat.{pow-le-pow_right}
use Rattle.ll_tree.specs.declared.op.BinKind.{BinKind}
use Rattle.ll_tree.specs.declared.op.BinKind.TheVariants.{Add, Sub, Mul, Shl, Lshr, Ashr, And, Or, Xor, Udiv, Sdiv, Urem, Srem, Smin, Smax, Umin, Umax}
use Rattle.ll_tree.specs.declared.op.CastKind.{CastKind}
use Rattle.ll_tree.specs.declared.op.CastKind.TheVariants.{Zext, Sext, Trunc}
use Rattle.ll_tree.specs.declared.op.Pred.{Pred}
use Rattle.ll_tree.specs.declared.op.Flags.{Flags}
use Rattle.ll_item_rules.specs.Widths.{cast_differs}
use Rattle.ir_meaning.specs.declared.value.Val.{Val}
use Rattle.ir_meaning.specs.declared.value.Val.TheVariants.{Poison, Num}
use Rattle.ir_meaning.specs.Whole.{signed, modulo, floor, quotient, remainder, by_bits}
use Rattle.ir_meaning.specs.Value.{FitsWidth, poison_if, on_number, select_of}
use Rattle.ir_meaning.specs.Rows.{wrapped, bin_on, bin_of, cast_on, cast_of, abs_of}
use Rattle.ir_meaning.specs.Compare.{holds, cmp_of}
use Rattle.ir_meaning.proofs.BitLaws.{by_bits-below, FitsWidth-poison_if}
use Rattle.ir_meaning.proofs.ModuloLaws.{modulo-below}

wrapped_fits : (flags : Flags) (width : ℕ) (exact exact_signed : ℤ) → FitsWidth width (wrapped flags width exact exact_signed)
wrapped_fits flags width exact exact_signed = FitsWidth-poison_if width (modulo width exact) _ (modulo-below width exact)

quotient_below : (a c p : ℕ) → a < p → a / c < p
quotient_below a c p below = omega (arith, below, div-le_self a c)

rest_below : (a c p : ℕ) → a < p → a % c < p
rest_below a c p below = omega (arith, below, div-add-mod' a c)

either_fits : (width : ℕ) (test : Bool) (a b : ℕ) → a < 2 ^ width → b < 2 ^ width → FitsWidth width (Num (cond test b a))
either_fits width test a b low_a low_b = cond_both test b a (λ n. n < 2 ^ width) (λ yes. low_b) (λ no. low_a)

pub bin_on_fits : (kind : BinKind) (flags : Flags) (width a b : ℕ) → a < 2 ^ width → b < 2 ^ width → FitsWidth width (bin_on kind flags width a b)
bin_on_fits Add flags width a b low_a low_b = wrapped_fits flags width (pos a +ℤ pos b) (signed width a +ℤ signed width b)
bin_on_fits Sub flags width a b low_a low_b = wrapped_fits flags width (pos a -ℤ pos b) (signed width a -ℤ signed width b)
bin_on_fits Mul flags width a b low_a low_b = wrapped_fits flags width (pos a *ℤ pos b) (signed width a *ℤ signed width b)
bin_on_fits Shl flags width a b low_a low_b = cond_both (ltb b width) (wrapped flags width (pos a *ℤ pos (2 ^ b)) (signed width a *ℤ pos (2 ^ b))) Poison (FitsWidth width) (λ yes. wrapped_fits flags width (pos a *ℤ pos (2 ^ b)) (signed width a *ℤ pos (2 ^ b))) (λ no. tt)
bin_on_fits Lshr flags width a b low_a low_b = FitsWidth-poison_if width (a / 2 ^ b) _ (quotient_below a (2 ^ b) (2 ^ width) low_a)
bin_on_fits Ashr flags width a b low_a low_b = FitsWidth-poison_if width (modulo width (floor (signed width a) (2 ^ b))) _ (modulo-below width (floor (signed width a) (2 ^ b)))
bin_on_fits And flags width a b low_a low_b = by_bits-below min (λ x y small_x small_y. omega arith) width a b
bin_on_fits Or flags width a b low_a low_b = FitsWidth-poison_if width (by_bits width max a b) _ (by_bits-below max (λ x y small_x small_y. omega arith) width a b)
bin_on_fits Xor flags width a b low_a low_b = by_bits-below (λ x y. (x + y) % 2) (λ x y small_x small_y. omega arith) width a b
bin_on_fits Udiv flags width a b low_a low_b = FitsWidth-poison_if width (a / b) _ (quotient_below a b (2 ^ width) low_a)
bin_on_fits Sdiv flags width a b low_a low_b = FitsWidth-poison_if width (modulo width (quotient width a b)) _ (modulo-below width (quotient width a b))
bin_on_fits Urem flags width a b low_a low_b = rest_below a b (2 ^ width) low_a
bin_on_fits Srem flags width a b low_a low_b = modulo-below width (remainder width a b)
bin_on_fits Smin flags width a b low_a low_b = either_fits width _ a b low_a low_b
bin_on_fits Smax flags width a b low_a low_b = either_fits width _ a b low_a low_b
bin_on_fits Umin flags width a b low_a low_b = omega (arith, low_a, low_b)
bin_on_fits Umax flags width a b low_a low_b = omega (arith, low_a, low_b)

pub bin_fits : (kind : BinKind) (flags : Flags) (width : ℕ) (a b : Val) → FitsWidth width a → FitsWidth width b → FitsWidth width (bin_of kind flags width a b)
bin_fits kind flags width Poison b fits_a fits_b = tt
bin_fits kind flags width (Num a) Poison fits_a fits_b = tt
bin_fits kind flags width (Num a) (Num b) fits_a fits_b = bin_on_fits kind flags width a b fits_a fits_b

bit_fits : (test barred : Bool) → FitsWidth 1 (poison_if barred (cond test 1 0))
bit_fits true barred = FitsWidth-poison_if 1 1 barred (omega arith)
bit_fits false barred = FitsWidth-poison_if 1 0 barred (omega arith)

pub cmp_fits : (pred : Pred) (flags : Flags) (width : ℕ) (a b : Val) → FitsWidth 1 (cmp_of pred flags width a b)
cmp_fits pred flags width Poison b = tt
cmp_fits pred flags width (Num a) Poison = tt
cmp_fits pred flags width (Num a) (Num b) = bit_fits (holds pred width a b) _

widened : (flags : Flags) (width to a : ℕ) (barred : Bool) → a < 2 ^ width → leb to width ≡ false → FitsWidth to (poison_if barred a)
widened flags width to a barred low wider =
    FitsWidth-poison_if to a barred (omega (arith, low, pow-le-pow_right {n = 2} (omega arith) {i = width} {j = to} (omega (arith, leb-false to width wider))))

cast_on_fits : (kind : CastKind) (flags : Flags) (width to a : ℕ) → cast_differs kind width to ≡ false → a < 2 ^ width → FitsWidth to (cast_on kind flags width to a)
cast_on_fits Zext flags width to a converts low = widened flags width to a _ low converts
cast_on_fits Sext flags width to a converts low = modulo-below to (signed width a)
cast_on_fits Trunc flags width to a converts low = wrapped_fits flags to (pos a) (signed width a)

pub cast_fits : (kind : CastKind) (flags : Flags) (width to : ℕ) (a : Val) → cast_differs kind width to ≡ false → FitsWidth width a → FitsWidth to (cast_of kind flags width to a)
cast_fits kind flags width to Poison converts fits = tt
cast_fits kind flags width to (Num a) converts fits = cast_on_fits kind flags width to a converts fits

pub select_fits : (width : ℕ) (c a b : Val) → FitsWidth width a → FitsWidth width b → FitsWidth width (select_of c a b)
select_fits width Poison a b fits_a fits_b = tt
select_fits width (Num c) a b fits_a fits_b = cond_both (eqb c 1) a b (FitsWidth width) (λ yes. fits_a) (λ no. fits_b)

pub abs_fits : (strict : Bool) (width : ℕ) (a : Val) → FitsWidth width a → FitsWidth width (on_number (abs_of strict width) a)
abs_fits strict width Poison fits = tt
abs_fits strict width (Num a) fits =
    FitsWidth-poison_if width (cond (int_le (pos 0) (signed width a)) a ((2 ^ width - a) % 2 ^ width)) _
    (cond_both (int_le (pos 0) (signed width a)) a ((2 ^ width - a) % 2 ^ width) (λ n. n < 2 ^ width) (λ yes. fits) (λ no. mod_below (2 ^ width - a) (2 ^ width) (omega (arith, fits))))
