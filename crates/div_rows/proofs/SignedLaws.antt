-- Signed readings by their sign, their bounds, and those of what a division of them gives.
use Rattle.std.proofs.Common.{◌≡◌, ◌≢◌, ℕ, zero, suc, ◌+◌, ◌-◌, ◌/◌, ◌^◌, ◌<◌, ◌≤◌, ℤ, pos, negsuc, neg_ℤ, ◌-ℤ◌, ◌*ℤ◌, ◌<ℤ◌, ◌≤ℤ◌, ◌⊎◌, refl, sym, ap, ◌∙◌, inl, inr, arith}
use Rattle.std.specs.Prelude.{unsigned_abs, int_div, int_rem}
use Rattle.std.proofs.Math.Nat.{pow-suc, div-le_self, pow-le-pow_right}
use Rattle.std.proofs.lemmas.Int.{ints, rem_below}
use Rattle.std.proofs.lemmas.Nat.{div_below}
use Rattle.ir_meaning.specs.Whole.{IsWidth, signed, quotient, remainder}
use Rattle.ir_meaning.proofs.DivideLaws.{rest-is}
use Rattle.wrap_rows.specs.Blocks.{sign_of}
use Rattle.wrap_rows.specs.Vars.{IsNumber}
use Rattle.wrap_rows.proofs.SignLaws.{signed-law}
use Rattle.wrap_rows.proofs.WrapLaws.{number_of, sign_cases, Plain, Lowered}

-- 2^width is twice the half of it
pub half_of : (width : ℕ) → 1 ≤ width → 2 ^ width ≡ 2 ^ (width - 1) + 2 ^ (width - 1)
half_of width above =
    let one_more : width ≡ suc (width - 1) = omega arith in
    let power : 2 ^ width ≡ 2 ^ suc (width - 1) = ap (λ k. 2 ^ k) one_more in
    omega (arith, power, pow-suc 2 (width - 1))

pub half_small : (width : ℕ) → IsWidth width → 2 ^ (width - 1) ≤ 2 ^ 31
half_small width w = pow-le-pow_right {n = 2} (omega arith) {i = width - 1} {j = 31} (omega (arith, w.greatest))

-- the cases of a number's sign
pub cases_of : (width : ℕ) (a s : ℤ) → IsNumber width a → s ≡ sign_of width a → Plain width (unsigned_abs a) s ⊎ Lowered width (unsigned_abs a) s
cases_of width a s is_a is =
    sign_cases width (unsigned_abs a) s (is ∙ ap (sign_of width) (sym (number_of a is_a.0)))

-- the signed reading by the sign
pub reading_by : (width : ℕ) (a s : ℤ) → IsWidth width → IsNumber width a → s ≡ sign_of width a → signed width (unsigned_abs a) ≡ a -ℤ (pos (2 ^ width) *ℤ s)
reading_by width a s w is_a is =
    let whole : pos (unsigned_abs a) ≡ a = number_of a is_a.0 in
    let law = signed-law width (unsigned_abs a) w (omega (arith, ints, whole, is_a.1)) in
    law ∙ ap (λ z. z -ℤ (pos (2 ^ width) *ℤ sign_of width z)) whole ∙ ap (λ z. a -ℤ (pos (2 ^ width) *ℤ z)) (sym is)

-- a number lies in the signed numbers whose half is this one
abbrev pub IsWithin : ℕ → ℤ → Type 0
IsWithin half z = (neg_ℤ (pos half) ≤ℤ z) × (z <ℤ pos half)

pub signed_in : (width n : ℕ) → IsWidth width → n < 2 ^ width → IsWithin (2 ^ (width - 1)) (signed width n)
signed_in width n w within =
    elim (sign_cases width n (sign_of width (pos n)) refl) [
      | inl plain ↦ (omega (arith, ints, plain.reads), omega (arith, ints, plain.reads, plain.small))
      | inr lowered ↦ (
        omega (arith, ints, lowered.reads, lowered.large, half_of width w.least),
        omega (arith, ints, lowered.reads, within),
      )
    ]

-- a number of the width other than 0 and the one that reads as -1
pub reading_some : (width c : ℕ) → 0 < c → c + 1 < 2 ^ width → (signed width c ≢ pos 0) × (signed width c ≢ negsuc 0)
reading_some width c some below =
    elim (sign_cases width c (sign_of width (pos c)) refl) [
      | inl plain ↦ (λ is. omega (arith, ints, plain.reads, is, some), λ is. omega (arith, ints, plain.reads, is))
      | inr lowered ↦ (λ is. omega (arith, ints, lowered.reads, is, below), λ is. omega (arith, ints, lowered.reads, is, below))
    ]

pub size_some : (z : ℤ) → z ≢ pos 0 → 0 < unsigned_abs z
size_some (pos zero) other = absurd (other refl)
size_some (pos (suc n)) other = omega arith
size_some (negsuc n) other = omega arith

-- divided by something else than -1, a signed number stays one
quotient_within : (half : ℕ) (z divisor : ℤ) → divisor ≢ negsuc 0 → IsWithin half z → IsWithin half (int_div z divisor)
quotient_within half (pos n) (pos d) other within =
    let small : n / d ≤ n = div-le_self n d in
    (omega (arith, ints), omega (arith, ints, small, within.1))
quotient_within half (pos n) (negsuc d) other within =
    let small : n / suc d ≤ n = div-le_self n (suc d) in
    (omega (arith, ints, small, within.1), omega (arith, ints, within.1))
quotient_within half (negsuc n) (pos d) other within =
    let small : suc n / d ≤ suc n = div-le_self (suc n) d in
    (omega (arith, ints, small, within.0), omega (arith, ints, within.0))
quotient_within half (negsuc n) (negsuc zero) other within = absurd (other refl)
quotient_within half (negsuc n) (negsuc (suc d)) other within =
    let less : suc n / suc (suc d) < suc n = div_below (suc n) (suc (suc d)) (suc n) (omega arith) (omega arith) in
    (omega (arith, ints), omega (arith, ints, less, within.0))

pub quotient_in : (width n c : ℕ) → IsWidth width → n < 2 ^ width → 0 < c → c + 1 < 2 ^ width → IsWithin (2 ^ (width - 1)) (quotient width n c)
quotient_in width n c w within some below =
    quotient_within (2 ^ (width - 1)) (signed width n) (signed width c) (reading_some width c some below).1 (signed_in width n w within)

pub remainder_is : (width n c : ℕ) → remainder width n c ≡ int_rem (signed width n) (signed width c)
remainder_is width n c = rest-is (signed width n) (signed width c)

-- a remainder is smaller than the divisor
pub remainder_small : (width n c : ℕ) → 0 < c → c + 1 < 2 ^ width → unsigned_abs (remainder width n c) < unsigned_abs (signed width c)
remainder_small width n c some below =
    let law = rem_below (signed width n) (signed width c) (size_some (signed width c) (reading_some width c some below).0) in
    omega (arith, law, ap unsigned_abs (remainder_is width n c))

pub size_within : (half : ℕ) (z : ℤ) → IsWithin half z → unsigned_abs z ≤ half
size_within half (pos n) within = omega (arith, ints, within.1)
size_within half (negsuc n) within = omega (arith, ints, within.0)

pub small_within : (half : ℕ) (z : ℤ) → unsigned_abs z < half → IsWithin half z
small_within half (pos n) small = (omega (arith, ints), omega (arith, ints, small))
small_within half (negsuc n) small = (omega (arith, ints, small), omega (arith, ints))

pub size_in : (width c : ℕ) → IsWidth width → c < 2 ^ width → unsigned_abs (signed width c) ≤ 2 ^ (width - 1)
size_in width c w within = size_within (2 ^ (width - 1)) (signed width c) (signed_in width c w within)

pub remainder_in : (width n c : ℕ) → IsWidth width → 0 < c → c + 1 < 2 ^ width → IsWithin (2 ^ (width - 1)) (remainder width n c)
remainder_in width n c w some below =
    small_within (2 ^ (width - 1)) (remainder width n c)
    (omega (arith, remainder_small width n c some below, size_in width c w (omega (arith, below))))
