-- Signed numbers as the code passes them, divided and added.
use Rattle.std.proofs.Common.{◌≡◌, ◌≢◌, ℕ, zero, suc, ◌^◌, ◌<◌, ◌≤◌, ℤ, pos, ◌+ℤ◌, FitsSigned, to_z, of_z, refl, sym, ap, ◌∙◌, arith}
use Rattle.std.specs.Prelude.{unsigned_abs, int_div, int_rem}
use Rattle.std.specs.Int.{w128}
use Rattle.std.proofs.lemmas.Int.{to_z-of_z, quot_is, rem_is, fits_signed_from_abs}
use Rattle.ir_meaning.proofs.DivideLaws.{quotient_bound}

abbrev pub passed : ℤ → ℤ
passed z = to_z w128 (of_z w128 z)

pub fits_small : (z : ℤ) → unsigned_abs z ≤ 2 ^ 31 → FitsSigned w128 z
fits_small z small = fits_signed_from_abs w128 z (omega (arith, small))

nonzero : (z : ℤ) (bits : ℕ) → bits ≡ of_z w128 z → FitsSigned w128 z → z ≢ pos 0 → 0 < bits
nonzero z zero is fits other = absurd (other (sym (to_z-of_z w128 z fits) ∙ ap (to_z w128) (sym is)))
nonzero z (suc n) is fits other = omega arith

pub quotient_fits : (d e : ℤ) → unsigned_abs d ≤ 2 ^ 31 → FitsSigned w128 (int_div d e)
quotient_fits d e small = fits_small (int_div d e) (quotient_bound d e (2 ^ 31) small)

pub can_divide : (d e : ℤ) → unsigned_abs d ≤ 2 ^ 31 → unsigned_abs e ≤ 2 ^ 31 → e ≢ pos 0 → (0 < of_z w128 e) × FitsSigned w128 (int_div (passed d) (passed e))
can_divide d e small_d small_e other = (
  nonzero e (of_z w128 e) refl (fits_small e small_e) other,
  rw (to_z-of_z w128 d (fits_small d small_d), to_z-of_z w128 e (fits_small e small_e)) (quotient_fits d e small_d),
)

pub quotient_passed : (d e : ℤ) → unsigned_abs d ≤ 2 ^ 31 → unsigned_abs e ≤ 2 ^ 31 → passed (int_div (passed d) (passed e)) ≡ int_div d e
quotient_passed d e small_d small_e = quot_is w128 d e (fits_small d small_d) (fits_small e small_e) (quotient_fits d e small_d)

pub remainder_passed : (d e : ℤ) → unsigned_abs d ≤ 2 ^ 31 → unsigned_abs e ≤ 2 ^ 31 → passed (int_rem (passed d) (passed e)) ≡ int_rem d e
remainder_passed d e small_d small_e = rem_is w128 d e (fits_small d small_d) (fits_small e small_e)

pub sum_passed : (x y : ℤ) → FitsSigned w128 x → FitsSigned w128 y → FitsSigned w128 (x +ℤ y) → passed (passed x +ℤ passed y) ≡ x +ℤ y
sum_passed x y fits_x fits_y fits =
    ap (λ v. passed (v +ℤ passed y)) (to_z-of_z w128 x fits_x)
    ∙ ap (λ v. passed (x +ℤ v)) (to_z-of_z w128 y fits_y)
    ∙ to_z-of_z w128 (x +ℤ y) fits
