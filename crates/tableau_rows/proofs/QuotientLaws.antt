-- Exact quotients.
use Rattle.std.proofs.Common.{◌≡◌, ◌≢◌, ℕ, zero, suc, ◌*◌, ◌/◌, ◌^◌, ◌<◌, ◌≤◌, ℤ, pos, negsuc, neg_ℤ, ◌*ℤ◌, FitsSigned, refl, sym, ap, ◌∙◌, arith}
use Rattle.std.specs.Prelude.{unsigned_abs}
use Rattle.std.specs.Int.{◌∣◌, w128}
use Rattle.std.specs.Int.RustNames.{int_div}
use Rattle.std.proofs.lemmas.Int.{ints}
use Rattle.std.proofs.lemmas.Nat.{div-add-mod'}
use Rattle.std.proofs.lemmas.Nat.Gcd.{le_of_dvd, mod-eq-zero_of_dvd}
use Rattle.std.proofs.Math.Nat.{eq-zero_of_zero-dvd}
use Rattle.tableau_rows.proofs.RingLaws.{neg-mul}

pub size_fits : (number : ℤ) → FitsSigned w128 number → unsigned_abs number ≤ 2 ^ 127
size_fits (pos n) fits = omega (arith, ints)
size_fits (negsuc n) fits = omega (arith, ints)

pub size_positive : (number : ℤ) → number ≢ pos 0 → 0 < unsigned_abs number
size_positive (pos zero) nonzero = absurd (nonzero refl)
size_positive (pos (suc n)) nonzero = omega arith
size_positive (negsuc n) nonzero = omega arith

-- a divisor of a number is at most as large
pub divisor_at_most : (number : ℤ) (divisor : ℕ) → FitsSigned w128 number → number ≢ pos 0 → divisor ∣ unsigned_abs number → divisor ≤ 2 ^ 127
divisor_at_most number divisor fits nonzero divides =
    omega (arith, size_fits number fits, le_of_dvd (size_positive number nonzero) divides)

pub divisor_positive : (number : ℤ) (divisor : ℕ) → number ≢ pos 0 → divisor ∣ unsigned_abs number → 0 < divisor
divisor_positive number zero nonzero divides = absurd (omega (arith, size_positive number nonzero, eq-zero_of_zero-dvd divides))
divisor_positive number (suc n) nonzero divides = omega arith

-- only the least number has the size 2^127
pub least_number : (number : ℤ) (divisor : ℕ) → FitsSigned w128 number → number ≢ pos 0 → divisor ∣ unsigned_abs number → divisor ≡ 2 ^ 127 → number ≡ neg_ℤ (pos (1 * divisor))
least_number number divisor fits nonzero divides e =
    let size : unsigned_abs number ≡ 2 ^ 127 = omega (arith, size_fits number fits, le_of_dvd (size_positive number nonzero) divides) in
    rw e (negative number fits size)
  where
    negative : (number : ℤ) → FitsSigned w128 number → unsigned_abs number ≡ 2 ^ 127 → number ≡ neg_ℤ (pos (1 * 2 ^ 127))
    negative (pos n) fits size = absurd (omega (arith, ints))
    negative (negsuc n) fits size = omega (arith, ints)

pub exact_quotient : (number : ℤ) (divisor : ℕ) → divisor ∣ unsigned_abs number → number ≡ int_div number (pos divisor) *ℤ pos divisor
exact_quotient (pos n) divisor divides = ap pos (omega (arith, div-add-mod' n divisor, mod-eq-zero_of_dvd divisor divides))
exact_quotient (negsuc n) divisor divides =
    let size : suc n ≡ suc n / divisor * divisor = omega (arith, div-add-mod' (suc n) divisor, mod-eq-zero_of_dvd divisor divides) in
    ap (λ m. neg_ℤ (pos m)) size ∙ sym (neg-mul (pos (suc n / divisor)) (pos divisor))
