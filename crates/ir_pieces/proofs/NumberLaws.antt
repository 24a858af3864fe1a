-- A piece fills in exactly its own variables.
use Rattle.std.proofs.Common.{◌≡◌, ℕ, ◌%◌, ◌^◌, Bool, true, false, ℤ, pos, List, [], ◌∷◌, ◌++◌, length, length-append, refl, arith}
use Rattle.std.specs.Prelude.{Option, None, Some}
use Rattle.mix_system.specs.Row.{number_at}
use Rattle.wrap_rows.specs.Blocks.{sign_of}
use Rattle.wrap_rows.specs.Piece.{mark_of}
use Rattle.wrap_rows.specs.declared.zext.Zext.{Zext}
use Rattle.wrap_rows.specs.declared.sext.Sext.{Sext}
use Rattle.wrap_rows.specs.declared.trunc.Trunc.{Trunc}
use Rattle.wrap_rows.specs.declared.select.Select.{Select}
use Rattle.wrap_rows.specs.declared.ranged.Ranged.{Ranged}
use Rattle.wrap_rows.specs.declared.sum.Sum.{Sum}
use Rattle.wrap_rows.specs.declared.scaled.Scaled.{Scaled}
use Rattle.wrap_rows.specs.declared.shift_out.ShiftOut.{ShiftOut}
use Rattle.wrap_rows.specs.declared.shift_right.ShiftRight.{ShiftRight}
use Rattle.wrap_rows.specs.declared.compare.Compare.{Compare}
use Rattle.wrap_rows.specs.declared.phi.Phi.{Phi}
use Rattle.bit_rows.specs.declared.bitwise.Bitwise.{Bitwise}
use Rattle.div_rows.specs.declared.unsigned_division.UnsignedDivision.{UnsignedDivision}
use Rattle.div_rows.specs.declared.signed_division.SignedDivision.{SignedDivision}
use Rattle.div_rows.specs.declared.abs.Abs.{Abs}
use Rattle.div_rows.specs.declared.extreme.Extreme.{Extreme}
use Rattle.wrap_rows.specs.Zext as zext
use Rattle.wrap_rows.specs.Sext as sext
use Rattle.wrap_rows.specs.Trunc as trunc
use Rattle.wrap_rows.specs.Select as select
use Rattle.wrap_rows.specs.Ranged as ranged
use Rattle.wrap_rows.specs.Sum as sum
use Rattle.wrap_rows.specs.Scaled as scaled
use Rattle.wrap_rows.specs.ShiftOut as shift_out
use Rattle.wrap_rows.specs.ShiftRight as shift_right
use Rattle.wrap_rows.specs.Compare as compare
use Rattle.wrap_rows.specs.Phi as phi
use Rattle.bit_rows.specs.Bits.{bits_of}
use Rattle.bit_rows.specs.Bitwise as bitwise
use Rattle.div_rows.specs.UnsignedDivision as unsigned_division
use Rattle.div_rows.specs.SignedDivision as signed_division
use Rattle.div_rows.specs.Abs as abs
use Rattle.div_rows.specs.Extreme as extreme
use Rattle.bit_rows.proofs.BitsLaws.{bits_length}
use Rattle.bit_rows.proofs.LayingLaws.{ranges_count}

pub zext-count : (piece : Zext) (point : List ℤ) → length (zext.numbers piece point) ≡ length (zext.ranges piece)
zext-count piece point = refl

pub sext-count : (piece : Sext) (point : List ℤ) → length (sext.numbers piece point) ≡ length (sext.ranges piece)
sext-count piece point = refl

trunc-helpers : (nsw : Bool) (piece : Trunc) (point : List ℤ) → length (trunc.helper_numbers nsw piece point) ≡ length (trunc.helpers nsw piece)
trunc-helpers true piece point = refl
trunc-helpers false piece point = refl

pub trunc-count : (piece : Trunc) (point : List ℤ) → length (trunc.numbers piece point) ≡ length (trunc.ranges piece)
trunc-count piece point = omega (arith, trunc-helpers piece.flags.nsw piece point)

pub select-count : (piece : Select) (point : List ℤ) → length (select.numbers piece point) ≡ length (select.ranges piece)
select-count piece point = refl

pub ranged-count : (piece : Ranged) (point : List ℤ) → length (ranged.numbers piece point) ≡ length (ranged.ranges piece)
ranged-count piece point = refl

sum-signs : (nsw : Bool) (piece : Sum) (point : List ℤ) → length (sum.signs nsw piece point) ≡ length (sum.sign_ranges nsw)
sum-signs true piece point = refl
sum-signs false piece point = refl

pub sum-count : (piece : Sum) (point : List ℤ) → length (sum.numbers piece point) ≡ length (sum.ranges piece)
sum-count piece point = omega (arith, sum-signs piece.flags.nsw piece point)

scaled-signs : (nsw : Bool) (sign : ℤ) → length (scaled.sign_numbers nsw sign) ≡ length (scaled.sign_ranges nsw)
scaled-signs true sign = refl
scaled-signs false sign = refl

pub scaled-count : (piece : Scaled) (point : List ℤ) → length (scaled.numbers piece point) ≡ length (scaled.ranges piece)
scaled-count piece point = omega (arith, scaled-signs piece.flags.nsw (sign_of piece.width (number_at point piece.a.number)))

pub shift_out-count : (piece : ShiftOut) (point : List ℤ) → length (shift_out.numbers piece point) ≡ length (shift_out.ranges piece)
shift_out-count piece point = refl

shift_right-helpers : (signed : Bool) (amount : ℕ) (sign rest : ℤ) → length (shift_right.helpers signed sign rest) ≡ length (shift_right.helper_ranges signed amount)
shift_right-helpers true amount sign rest = refl
shift_right-helpers false amount sign rest = refl

pub shift_right-count : (piece : ShiftRight) (point : List ℤ) → length (shift_right.numbers piece point) ≡ length (shift_right.ranges piece)
shift_right-count piece point =
    omega (arith, shift_right-helpers piece.signed piece.amount (sign_of piece.width (number_at point piece.a.number)) (pos (shift_right.divided piece point % 2 ^ piece.amount)))

compare-signs : (needed : Bool) (width : ℕ) (a b : ℤ) → length (compare.signs needed width a b) ≡ length (compare.sign_ranges needed)
compare-signs true width a b = refl
compare-signs false width a b = refl

pub compare-count : (piece : Compare) (point : List ℤ) → length (compare.numbers piece point) ≡ length (compare.ranges piece)
compare-count piece point =
    omega (arith, compare-signs (compare.needs_signs piece) piece.width (number_at point piece.a.number) (number_at point piece.b.number))

pub phi-count : (piece : Phi) (point : List ℤ) → length (phi.numbers piece point) ≡ length (phi.ranges piece)
phi-count piece point = refl

bit-helpers : (literal : Option ℕ) (width number : ℕ) → length (bitwise.helpers literal width number) ≡ bitwise.helper_count literal width
bit-helpers None width number = bits_length width number
bit-helpers (Some literal) width number = refl

pub bitwise-count : (piece : Bitwise) (point : List ℤ) → length (bitwise.numbers piece point) ≡ length (bitwise.ranges piece)
bitwise-count piece point =
    let left = bitwise.left piece point in
    let right = bitwise.right piece point in
    let a = bitwise.helpers piece.a.literal piece.width left in
    let b = bitwise.helpers piece.b.literal piece.width right in
    let own = bits_of piece.width (bitwise.result_of piece.kind piece.width left right) in
    omega (
      arith,
      ranges_count piece,
      length-append a (b ++ own),
      length-append b own,
      bit-helpers piece.a.literal piece.width left,
      bit-helpers piece.b.literal piece.width right,
      bits_length piece.width (bitwise.result_of piece.kind piece.width left right),
    )

pub unsigned_division-count : (piece : UnsignedDivision) (point : List ℤ) → length (unsigned_division.numbers piece point) ≡ length (unsigned_division.ranges piece)
unsigned_division-count piece point = refl

pub signed_division-count : (piece : SignedDivision) (point : List ℤ) → length (signed_division.numbers piece point) ≡ length (signed_division.ranges piece)
signed_division-count piece point = refl

pub abs-count : (piece : Abs) (point : List ℤ) → length (abs.numbers piece point) ≡ length (abs.ranges piece)
abs-count piece point = refl

pub extreme-count : (piece : Extreme) (point : List ℤ) → length (extreme.numbers piece point) ≡ length (extreme.ranges piece)
extreme-count piece point =
    let a = number_at point piece.a.number in
    let b = number_at point piece.b.number in
    let signs = compare.signs piece.signed piece.width a b in
    omega (
      arith,
      length-append signs (mark_of (extreme.is_ordered piece.signed piece.width a b) ∷ []),
      length-append (compare.sign_ranges piece.signed) ((pos 0, pos 1) ∷ []),
      compare-signs piece.signed piece.width a b,
    )
