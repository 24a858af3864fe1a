-- The value of each operation on numbers of a width, one definition for each, after the LLVM Language Reference
-- (Binary Operations, Bitwise Binary Operations, Conversion Operations, and the integer intrinsics).
-- A flag that a definition doesn't name has no effect there.
use Rattle.std.specs.Prelude.{ℕ, ◌+◌, ◌-◌, ◌/◌, ◌%◌, ◌^◌, min, max, Bool, true, false, not, ◌&&◌, ◌||◌, ◌==◌, nat_lt, nat_le, if◌then◌else◌, pos, ◌+ℤ◌, ◌-ℤ◌, ◌*ℤ◌, ℤ, int_lt, int_le}
use Rattle.std.specs.Ordering.{int_eq}
use Rattle.ll_tree.specs.declared.op.BinKind.{BinKind}
use Rattle.ll_tree.specs.declared.op.BinKind.TheVariants.{Add, Sub, Mul, Shl, Lshr, Ashr, And, Or, Xor, Udiv, Sdiv, Urem, Srem, Smin, Smax, Umin, Umax}
use Rattle.ll_tree.specs.declared.op.CastKind.{CastKind}
use Rattle.ll_tree.specs.declared.op.CastKind.TheVariants.{Zext, Sext, Trunc}
use Rattle.ll_tree.specs.declared.op.Flags.{Flags}
use Rattle.ir_meaning.specs.declared.value.Val.{Val}
use Rattle.ir_meaning.specs.declared.value.Val.TheVariants.{Poison, Num}
use Rattle.ir_meaning.specs.Whole.{signed, modulo, floor, quotient, remainder, is_unsigned, is_signed, by_bits}
use Rattle.ir_meaning.specs.Value.{poison_if, on_number, on_numbers}

-- ---- arithmetic

-- `nuw` bars an exact result that leaves the numbers of the width; `nsw` bars one of the signed readings that leaves the signed numbers
abbrev pub is_barred : Flags → ℕ → Bool → ℤ → Bool
is_barred flags width leaves exact_signed = (flags.nuw && leaves) || (flags.nsw && not (is_signed width exact_signed))

-- the exact result modulo 2^width, unless a flag bars it
abbrev pub wrapped : Flags → ℕ → ℤ → ℤ → Val
wrapped flags width exact exact_signed =
    poison_if (is_barred flags width (not (is_unsigned width exact)) exact_signed) (modulo width exact)

abbrev pub add_of : Flags → ℕ → ℕ → ℕ → Val
add_of flags width a b = wrapped flags width (pos a +ℤ pos b) (signed width a +ℤ signed width b)

abbrev pub sub_of : Flags → ℕ → ℕ → ℕ → Val
sub_of flags width a b = wrapped flags width (pos a -ℤ pos b) (signed width a -ℤ signed width b)

abbrev pub mul_of : Flags → ℕ → ℕ → ℕ → Val
mul_of flags width a b = wrapped flags width (pos a *ℤ pos b) (signed width a *ℤ signed width b)

-- ---- shifts: poison where the amount isn't below the width

abbrev pub shl_of : Flags → ℕ → ℕ → ℕ → Val
shl_of flags width a k =
    if nat_lt k width then wrapped flags width (pos a *ℤ pos (2 ^ k)) (signed width a *ℤ pos (2 ^ k)) else Poison

-- `exact` bars a number that isn't a multiple of 2^k
abbrev pub lshr_of : Flags → ℕ → ℕ → ℕ → Val
lshr_of flags width a k = poison_if (nat_le width k || (flags.exact && not (a % 2 ^ k == 0))) (a / 2 ^ k)

abbrev pub ashr_of : Flags → ℕ → ℕ → ℕ → Val
ashr_of flags width a k =
    poison_if (nat_le width k || (flags.exact && not (a % 2 ^ k == 0))) (modulo width (floor (signed width a) (2 ^ k)))

-- ---- bit by bit

-- 1 where both bits are; where one of them is; where they differ
abbrev pub and_of : ℕ → ℕ → ℕ → Val
and_of width a b = Num (by_bits width min a b)

-- `disjoint` bars a bit that is 1 in both
abbrev pub or_of : Flags → ℕ → ℕ → ℕ → Val
or_of flags width a b = poison_if (flags.disjoint && not (by_bits width min a b == 0)) (by_bits width max a b)

abbrev pub xor_of : ℕ → ℕ → ℕ → Val
xor_of width a b = Num (by_bits width (λ x y. (x + y) % 2) a b)

-- ---- division: `exact` bars a remainder

abbrev pub udiv_of : Flags → ℕ → ℕ → Val
udiv_of flags a c = poison_if (flags.exact && not (a % c == 0)) (a / c)

abbrev pub urem_of : ℕ → ℕ → Val
urem_of a c = Num (a % c)

abbrev pub sdiv_of : Flags → ℕ → ℕ → ℕ → Val
sdiv_of flags width a c =
    poison_if (flags.exact && not (int_eq (remainder width a c) (pos 0))) (modulo width (quotient width a c))

abbrev pub srem_of : ℕ → ℕ → ℕ → Val
srem_of width a c = Num (modulo width (remainder width a c))

-- ---- the lesser and the greater, of the signed readings or of the numbers

abbrev pub smin_of : ℕ → ℕ → ℕ → Val
smin_of width a b = Num (if int_lt (signed width b) (signed width a) then b else a)

abbrev pub smax_of : ℕ → ℕ → ℕ → Val
smax_of width a b = Num (if int_lt (signed width a) (signed width b) then b else a)

abbrev pub umin_of : ℕ → ℕ → Val
umin_of a b = Num (min a b)

abbrev pub umax_of : ℕ → ℕ → Val
umax_of a b = Num (max a b)

-- ---- conversions, and the absolute value

-- `nneg` bars a number whose signed reading is negative
abbrev pub zext_of : Flags → ℕ → ℕ → Val
zext_of flags width a = poison_if (flags.nneg && int_lt (signed width a) (pos 0)) a

abbrev pub sext_of : ℕ → ℕ → ℕ → Val
sext_of width to a = Num (modulo to (signed width a))

abbrev pub trunc_of : Flags → ℕ → ℕ → ℕ → Val
trunc_of flags width to a = wrapped flags to (pos a) (signed width a)

-- the strict form bars the number whose signed reading is the least
abbrev pub abs_of : Bool → ℕ → ℕ → Val
abs_of strict width a =
    poison_if (strict && (a == 2 ^ (width - 1))) (if int_le (pos 0) (signed width a) then a else ((2 ^ width - a) % 2 ^ width))

-- ---- by kind

abbrev pub bin_on : BinKind → Flags → ℕ → ℕ → ℕ → Val
bin_on Add flags width a b = add_of flags width a b
bin_on Sub flags width a b = sub_of flags width a b
bin_on Mul flags width a b = mul_of flags width a b
bin_on Shl flags width a b = shl_of flags width a b
bin_on Lshr flags width a b = lshr_of flags width a b
bin_on Ashr flags width a b = ashr_of flags width a b
bin_on And flags width a b = and_of width a b
bin_on Or flags width a b = or_of flags width a b
bin_on Xor flags width a b = xor_of width a b
bin_on Udiv flags width a b = udiv_of flags a b
bin_on Sdiv flags width a b = sdiv_of flags width a b
bin_on Urem flags width a b = urem_of a b
bin_on Srem flags width a b = srem_of width a b
bin_on Smin flags width a b = smin_of width a b
bin_on Smax flags width a b = smax_of width a b
bin_on Umin flags width a b = umin_of a b
bin_on Umax flags width a b = umax_of a b

abbrev pub bin_of : BinKind → Flags → ℕ → Val → Val → Val
bin_of kind flags width a b = on_numbers (bin_on kind flags width) a b

abbrev pub cast_on : CastKind → Flags → ℕ → ℕ → ℕ → Val
cast_on Zext flags width to a = zext_of flags width a
cast_on Sext flags width to a = sext_of width to a
cast_on Trunc flags width to a = trunc_of flags width to a

abbrev pub cast_of : CastKind → Flags → ℕ → ℕ → Val → Val
cast_of kind flags width to a = on_number (cast_on kind flags width to) a

-- the second operand divides
abbrev pub divides : BinKind → Bool
divides Udiv = true
divides Sdiv = true
divides Urem = true
divides Srem = true
divides _ = false
