-- A quotient rounded towards zero and its remainder are the only numbers that divide as they do.
use Rattle.std.proofs.Common.{◌≡◌, ℕ, zero, suc, ◌<◌, ℤ, pos, negsuc, neg_ℤ, ◌+ℤ◌, ◌*ℤ◌, ◌<ℤ◌, ◌≤ℤ◌, refl, ap, arith}
use Rattle.std.specs.Prelude.{unsigned_abs, int_div, int_rem}
use Rattle.std.proofs.Math.IntN.{*ℤ_comm}
use Rattle.std.proofs.lemmas.Int.{ints, by_lt_z, quot-rem, rem_below, unsigned_abs-mul}
use Rattle.mix_system.proofs.ProductLaws.{neg_ℤ-*ℤ, add-*ℤ}

-- a number is the quotient times the divisor and a remainder, which is smaller than the divisor and not of the other sign than the number
pub record IsDivided (z divisor quotient remainder : ℤ) : Type 0 where
  pub sum : z ≡ (divisor *ℤ quotient) +ℤ remainder
  pub small : unsigned_abs remainder < unsigned_abs divisor
  pub low : z <ℤ pos 0 → remainder ≤ℤ pos 0
  pub high : pos 0 ≤ℤ z → pos 0 ≤ℤ remainder

-- a multiple that is smaller than what it is a multiple of is none of it
none_of : (count divisor product : ℤ) → count *ℤ divisor ≡ product → unsigned_abs product < unsigned_abs divisor → count ≡ pos 0
none_of (pos zero) divisor product is small = refl
none_of (pos (suc k)) divisor product is small = absurd (omega (arith, small, ap unsigned_abs is, unsigned_abs-mul (pos (suc k)) divisor))
none_of (negsuc k) divisor product is small = absurd (omega (arith, small, ap unsigned_abs is, unsigned_abs-mul (negsuc k) divisor))

close_above : (r s : ℤ) (n : ℕ) → pos 0 ≤ℤ r → pos 0 ≤ℤ s → unsigned_abs r < n → unsigned_abs s < n → unsigned_abs (s +ℤ neg_ℤ r) < n
close_above (pos a) (pos b) n low_r low_s small_r small_s =
    by_lt_z (pos b) (pos a) (λ below. omega (arith, ints, below, small_r, small_s)) (λ above. omega (arith, ints, above, small_r, small_s))
close_above (negsuc a) s n low_r low_s small_r small_s = absurd (omega (arith, ints, low_r))
close_above (pos a) (negsuc b) n low_r low_s small_r small_s = absurd (omega (arith, ints, low_s))

close_below : (r s : ℤ) (n : ℕ) → r ≤ℤ pos 0 → s ≤ℤ pos 0 → unsigned_abs r < n → unsigned_abs s < n → unsigned_abs (s +ℤ neg_ℤ r) < n
close_below r s n low_r low_s small_r small_s =
    by_lt_z r s (λ below. omega (arith, ints, below, low_r, low_s, small_r, small_s)) (λ above. omega (arith, ints, above, low_r, low_s, small_r, small_s))

-- two remainders of one number are less apart than the divisor is large
close : (z divisor q r p s : ℤ) → IsDivided z divisor q r → IsDivided z divisor p s → unsigned_abs (s +ℤ neg_ℤ r) < unsigned_abs divisor
close z divisor q r p s one two =
    by_lt_z z (pos 0)
    (λ below. close_below r s (unsigned_abs divisor) (one.low below) (two.low below) one.small two.small)
    (λ above. close_above r s (unsigned_abs divisor) (one.high above) (two.high above) one.small two.small)

same_quotient : (z divisor q r p s : ℤ) → IsDivided z divisor q r → IsDivided z divisor p s → q ≡ p
same_quotient z divisor q r p s one two =
    let spread = add-*ℤ q (neg_ℤ p) divisor in
    let turned = neg_ℤ-*ℤ p divisor in
    let left = *ℤ_comm divisor q in
    let right = *ℤ_comm divisor p in
    let product : (q +ℤ neg_ℤ p) *ℤ divisor ≡ s +ℤ neg_ℤ r = omega (arith, ints, spread, turned, left, right, one.sum, two.sum) in
    let none = none_of (q +ℤ neg_ℤ p) divisor (s +ℤ neg_ℤ r) product (close z divisor q r p s one two) in
    omega (arith, ints, none)

same_remainder : (z divisor q r p s : ℤ) → IsDivided z divisor q r → IsDivided z divisor p s → r ≡ s
same_remainder z divisor q r p s one two =
    let same = ap (λ k. divisor *ℤ k) (same_quotient z divisor q r p s one two) in
    omega (arith, ints, same, one.sum, two.sum)

not_above : (a d : ℤ) → a <ℤ pos 0 → int_rem a d ≤ℤ pos 0
not_above (pos n) d below = absurd (omega (arith, ints, below))
not_above (negsuc n) d below = omega (arith, ints)

not_below : (a d : ℤ) → pos 0 ≤ℤ a → pos 0 ≤ℤ int_rem a d
not_below (pos n) d above = omega (arith, ints)
not_below (negsuc n) d above = absurd (omega (arith, ints, above))

-- the quotient and the remainder divide so
pub divided-true : (z divisor : ℤ) → 0 < unsigned_abs divisor → IsDivided z divisor (int_div z divisor) (int_rem z divisor)
divided-true z divisor some = record {
  sum = omega (arith, ints, quot-rem z divisor, *ℤ_comm divisor (int_div z divisor));
  small = rem_below z divisor some;
  low = not_above z divisor;
  high = not_below z divisor;
}

-- and no other numbers do
pub divided-said : (z divisor quotient remainder : ℤ) → IsDivided z divisor quotient remainder → (quotient ≡ int_div z divisor) × (remainder ≡ int_rem z divisor)
divided-said z divisor quotient remainder is =
    let some : 0 < unsigned_abs divisor = omega (arith, is.small) in
    let own = divided-true z divisor some in (
      same_quotient z divisor quotient remainder (int_div z divisor) (int_rem z divisor) is own,
      same_remainder z divisor quotient remainder (int_div z divisor) (int_rem z divisor) is own,
    )
