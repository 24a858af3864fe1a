-- The sign of an operand.
use Rattle.std.proofs.Common.{◌≡◌, ℕ, suc, ◌+◌, ◌-◌, ◌^◌, ◌<◌, ◌≤◌, Bool, true, false, cond, ℤ, pos, negsuc, neg_ℤ, ◌+ℤ◌, ◌-ℤ◌, ◌*ℤ◌, ◌<ℤ◌, ◌≤ℤ◌, List, [], inl, inr, ap, sym, ◌∙◌, arith}
use Rattle.std.specs.Prelude.{◌↔◌, int_lt, slice_index_or, All, Any}
use Rattle.std.proofs.Math.IntN.{*ℤ_comm, *ℤ-zero}
use Rattle.std.proofs.Math.Nat.{mul-one, pow-suc}
use Rattle.std.proofs.lemmas.Bool.Decides.{nat_tests}
use Rattle.std.proofs.lemmas.Int.{ints, by_lt_z}
use Rattle.std.proofs.lemmas.Nat.{pow_pos}
use Rattle.mix_system.specs.declared.row.Part.{Part}
use Rattle.mix_system.specs.Fits.{IsTrueAt}
use Rattle.mix_system.specs.Row.{number_at, row_value}
use Rattle.ir_meaning.specs.Whole.{IsWidth, signed}
use Rattle.wrap_rows.specs.Vars.{IsNumber, IsMark}
use Rattle.wrap_rows.specs.Blocks.{sign_of, sign_row, sign_clauses}
use Rattle.wrap_rows.proofs.BlockLaws.{mark_cases, each-said, all-true}

-- 2^width is twice the half of it
pub half_of : (width : ℕ) → 1 ≤ width → 2 ^ width ≡ 2 ^ (width - 1) + 2 ^ (width - 1)
half_of width above =
    let one_more : width ≡ suc (width - 1) = omega arith in
    let power : 2 ^ width ≡ 2 ^ suc (width - 1) = ap (λ k. 2 ^ k) one_more in
    omega (arith, power, pow-suc 2 (width - 1))

-- the sum of the sign's row
abbrev sum_of : ℕ → ℤ → ℤ → ℤ
sum_of half number sign = pos 1 *ℤ number +ℤ (neg_ℤ (pos half) *ℤ sign +ℤ pos 0)

times_one : (number : ℤ) → number *ℤ pos 1 ≡ number
times_one (pos n) = ap pos (mul-one n)
times_one (negsuc n) = ap (λ m. neg_ℤ (pos m)) (mul-one (suc n))

once : (number : ℤ) → pos 1 *ℤ number ≡ number
once number = *ℤ_comm (pos 1) number ∙ times_one number

sum-plain : (half : ℕ) (number sign : ℤ) → sign ≡ pos 0 → sum_of half number sign ≡ number
sum-plain half number sign is =
    let none : neg_ℤ (pos half) *ℤ sign ≡ pos 0 = ap (λ s. neg_ℤ (pos half) *ℤ s) is ∙ *ℤ-zero (neg_ℤ (pos half)) in
    omega (arith, ints, once number, none)

sum-lowered : (half : ℕ) (number sign : ℤ) → sign ≡ pos 1 → sum_of half number sign ≡ number -ℤ pos half
sum-lowered half number sign is =
    let less : neg_ℤ (pos half) *ℤ sign ≡ neg_ℤ (pos half) = ap (λ s. neg_ℤ (pos half) *ℤ s) is ∙ times_one (neg_ℤ (pos half)) in
    omega (arith, ints, once number, less)

-- the sign as the test says
abbrev test_of : ℕ → ℤ → ℤ
test_of half number = cond (int_lt number (pos half)) (pos 0) (pos 1)

sign_said : (half : ℕ) (number sign : ℤ) → pos 0 ≤ℤ number → number <ℤ pos (half + half) → IsMark sign → pos 0 ≤ℤ sum_of half number sign → sum_of half number sign ≤ℤ pos (half - 1) → 0 < half → sign ≡ test_of half number
sign_said half number sign low high is above below some =
    by_lt_z number (pos half)
    (λ small.
    let test : test_of half number ≡ pos 0 = grind (arith, ints) in
    elim (mark_cases sign is) [
      | inl zero_here ↦ zero_here ∙ sym test
      | inr one ↦ absurd (omega (arith, ints, sum-lowered half number sign one, small, above))
    ])
    (λ large.
    let test : test_of half number ≡ pos 1 = grind (arith, ints) in
    elim (mark_cases sign is) [
      | inl zero_here ↦ absurd (omega (arith, ints, sum-plain half number sign zero_here, large, below, some))
      | inr one ↦ one ∙ sym test
    ])

sign_true : (half : ℕ) (number sign : ℤ) → pos 0 ≤ℤ number → number <ℤ pos (half + half) → 0 < half → sign ≡ test_of half number → (pos 0 ≤ℤ sum_of half number sign) × (sum_of half number sign ≤ℤ pos (half - 1))
sign_true half number sign low high some is =
    by_lt_z number (pos half)
    (λ small.
    let test : test_of half number ≡ pos 0 = grind (arith, ints) in
    let plain = sum-plain half number sign (is ∙ test) in
    (omega (arith, ints, plain, low), omega (arith, ints, plain, small)))
    (λ large.
    let test : test_of half number ≡ pos 1 = grind (arith, ints) in
    let lowered = sum-lowered half number sign (is ∙ test) in
    (omega (arith, ints, lowered, large), omega (arith, ints, lowered, high)))

pub sign-law : (rows : List (List Part)) (point : List ℤ) (row width number sign : ℕ) → IsWidth width → slice_index_or rows row [] ≡ sign_row width number sign → IsNumber width (number_at point number) → IsMark (number_at point sign)
    → All (Any (IsTrueAt rows point)) (sign_clauses width row) ↔ (number_at point sign ≡ sign_of width (number_at point number))
sign-law rows point row width number sign w at is_number is_mark =
    let half = 2 ^ (width - 1) in
    let sum : row_value (slice_index_or rows row []) point ≡ sum_of half (number_at point number) (number_at point sign) = ap (λ parts. row_value parts point) at in
    let high : number_at point number <ℤ pos (half + half) = omega (arith, ints, is_number.1, half_of width w.least) in (
      λ all.
          let each = each-said (IsTrueAt rows point) (sign_clauses width row) all in
          let above : pos 0 ≤ℤ row_value (slice_index_or rows row []) point = elim each.0 [ inl here ↦ here | inr none ↦ elim none [ ] ] in
          let below : row_value (slice_index_or rows row []) point ≤ℤ pos (half - 1) = elim each.1.0 [ inl here ↦ here | inr none ↦ elim none [ ] ] in
          sign_said half (number_at point number) (number_at point sign) is_number.0 high is_mark (omega (arith, ints, sum, above)) (omega (arith, ints, sum, below)) (pow_pos (width - 1)),
      λ is.
          let within = sign_true half (number_at point number) (number_at point sign) is_number.0 high (pow_pos (width - 1)) is in
          all-true (IsTrueAt rows point) (sign_clauses width row) (inl (omega (arith, ints, sum, within.0)), (inl (omega (arith, ints, sum, within.1)), tt)),
    )

-- the signed reading by the sign
pub signed-law : (width n : ℕ) → IsWidth width → n < 2 ^ width → signed width n ≡ pos n -ℤ (pos (2 ^ width) *ℤ sign_of width (pos n))
signed-law width n w within =
    by_lt_z (pos n) (pos (2 ^ (width - 1)))
    (λ small.
    let sign : sign_of width (pos n) ≡ pos 0 = grind (arith, ints) in
    let none : pos (2 ^ width) *ℤ sign_of width (pos n) ≡ pos 0 = ap (λ s. pos (2 ^ width) *ℤ s) sign ∙ *ℤ-zero (pos (2 ^ width)) in
    let reads : signed width n ≡ pos n = plain (omega (arith, ints, small)) in
    omega (arith, ints, none, reads))
    (λ large.
    let sign : sign_of width (pos n) ≡ pos 1 = grind (arith, ints) in
    let all : pos (2 ^ width) *ℤ sign_of width (pos n) ≡ pos (2 ^ width) = ap (λ s. pos (2 ^ width) *ℤ s) sign ∙ times_one (pos (2 ^ width)) in
    let reads : signed width n ≡ pos n -ℤ pos (2 ^ width) = lowered (omega (arith, ints, large)) in
    omega (arith, ints, all, reads))
  where
    plain : n < 2 ^ (width - 1) → signed width n ≡ pos n
    plain below = grind (arith, nat_tests)

    lowered : 2 ^ (width - 1) ≤ n → signed width n ≡ pos n -ℤ pos (2 ^ width)
    lowered above = grind (arith, nat_tests)

-- a sign is 0 or 1
pub sign_of-IsMark : (width : ℕ) (a : ℤ) → IsMark (sign_of width a)
sign_of-IsMark width a = by_cases (int_lt a (pos (2 ^ (width - 1))))
  where
    by_cases : (test : Bool) → IsMark (cond test (pos 0) (pos 1))
    by_cases true = (omega (arith, ints), omega (arith, ints))
    by_cases false = (omega (arith, ints), omega (arith, ints))
