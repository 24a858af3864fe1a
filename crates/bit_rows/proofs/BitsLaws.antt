-- What the equation of a number and its bits says at a point, and where bits stand.
use Rattle.std.proofs.Common.{◌≡◌, ℕ, zero, suc, ◌+◌, ◌*◌, ◌/◌, ◌%◌, ◌^◌, ◌<◌, ◌≤◌, ℤ, pos, neg_ℤ, ◌+ℤ◌, ◌*ℤ◌, ◌⊎◌, inl, inr, List, [], ◌∷◌, ◌++◌, length, slice_set, refl, ap, sym, ◌∙◌, subst, arith, add-zero}
use Rattle.std.specs.Prelude.{◌↔◌, slice_index_or, unsigned_abs, All, Any}
use Rattle.std.proofs.Math.ListN.{length-set}
use Rattle.std.proofs.Math.Nat.{pow-suc, pow-zero, mul-zero, add-mul, mul_comm, mul_assoc, mul-one, zero-add}
use Rattle.std.proofs.lemmas.Int.{ints}
use Rattle.mix_system.specs.declared.literal.Term.TheVariants.{Row}
use Rattle.mix_system.specs.declared.row.Part.{Part}
use Rattle.mix_system.specs.Fits.{IsTrueAt, term_value}
use Rattle.mix_system.specs.Row.{number_at, row_value}
use Rattle.mix_system.proofs.ProductLaws.{neg_ℤ-*ℤ}
use Rattle.wrap_rows.specs.Vars.{IsNumber}
use Rattle.wrap_rows.specs.Blocks.{equals}
use Rattle.wrap_rows.specs.Piece.{put_from, AreIn}
use Rattle.wrap_rows.proofs.BlockLaws.{each-said, all-true, equals-said, equals-true}
use Rattle.wrap_rows.proofs.LinearLaws.{once}
use Rattle.wrap_rows.proofs.PutLaws.{put-first}
use Rattle.bit_rows.specs.declared.bits.BitVars.{BitVars}
use Rattle.bit_rows.specs.declared.bits.BitVars.TheVariants.{Helpers, Literal}
use Rattle.bit_rows.specs.Bits.{bits_of, bit_ranges, minus_bits, bits_row, lowest, others, HaveBits, StandBefore}

pub bit_cases : (bit : ℕ) → bit < 2 → (bit ≡ 0) ⊎ (bit ≡ 1)
bit_cases zero below = inl refl
bit_cases (suc bit) below = inr (omega (arith, below))

-- ---- the sum of the bits

-- a lowest bit and the half of the rest, times a weight
weighed : (p bit half n : ℕ) → n ≡ half * 2 + bit → p * bit + p * 2 * half ≡ p * n
weighed p bit half n is =
    let spread : p * n ≡ (half * 2 + bit) * p = mul_comm p n ∙ ap (λ k. k * p) is in
    let apart : (half * 2 + bit) * p ≡ half * 2 * p + bit * p = add-mul (half * 2) bit p in
    let turned : half * 2 * p ≡ p * 2 * half = mul_assoc half 2 p ∙ ap (λ k. half * k) (mul_comm 2 p) ∙ mul_comm half (p * 2) in
    omega (arith, spread, apart, turned, mul_comm bit p)

one_less : (p b : ℕ) (v : ℤ) → v ≡ pos b → neg_ℤ (pos p) *ℤ v ≡ neg_ℤ (pos (p * b))
one_less p b v is = ap (λ k. neg_ℤ (pos p) *ℤ k) is ∙ neg_ℤ-*ℤ (pos p) (pos b)

pub taken : (width place first n : ℕ) (point : List ℤ) → HaveBits width (Helpers first) n point → n < 2 ^ width → row_value (minus_bits width place first) point ≡ neg_ℤ (pos (2 ^ place * n))
taken zero place first n point have below =
    let none : n ≡ 0 = omega (arith, below, pow-zero 2) in
    let product : 2 ^ place * n ≡ 0 = ap (λ k. 2 ^ place * k) none ∙ mul-zero (2 ^ place) in
    omega (arith, ints, product)
taken (suc width) place first n point have below =
    let p = 2 ^ place in
    let half : n / 2 < 2 ^ width = omega (arith, below, pow-suc 2 width) in
    let next : 2 ^ (place + 1) ≡ p * 2 = ap (λ k. 2 ^ k) (omega arith) ∙ pow-suc 2 place in
    let later : row_value (minus_bits width (place + 1) (first + 1)) point ≡ neg_ℤ (pos (p * 2 * (n / 2))) =
    taken width (place + 1) (first + 1) (n / 2) point have.1 half ∙ ap (λ q. neg_ℤ (pos (q * (n / 2)))) next in
    let here = one_less p (n % 2) (number_at point first) have.0 in
    let whole = weighed p (n % 2) (n / 2) n (omega arith) in
    omega (arith, ints, later, here, whole)

-- the sum of the equation's row
sum_is : (width number first n : ℕ) (point : List ℤ) → HaveBits width (Helpers first) n point → n < 2 ^ width → row_value (bits_row width number first) point +ℤ pos n ≡ number_at point number
sum_is width number first n point have below =
    let all = taken width 0 first n point have below in
    let whole : 2 ^ 0 * n ≡ n = ap (λ p. p * n) (pow-zero 2) ∙ mul_comm 1 n ∙ mul-one n in
    omega (arith, ints, all, whole, once (number_at point number))

-- ---- bits that are 0 or 1 make a number

abbrev Makes : (width first : ℕ) → List ℤ → ℕ → Type 0
Makes width first point n = HaveBits width (Helpers first) n point × (n < 2 ^ width)

makes : (width first : ℕ) (point : List ℤ) → AreIn first (bit_ranges width) point → (n : ℕ) × Makes width first point n
makes zero first point marks = (0, (tt, omega (arith, pow-zero 2)))
makes (suc width) first point marks =
    let rest = makes width (first + 1) point marks.1 in
    let v = number_at point first in
    let bit = unsigned_abs v in
    let is : v ≡ pos bit = omega (arith, ints, marks.0.0) in
    let small : bit < 2 = omega (arith, ints, marks.0.1, is) in
    let n = bit + 2 * rest.0 in
    let low : n % 2 ≡ bit = omega (arith, small) in
    let high : n / 2 ≡ rest.0 = omega (arith, small) in
    (n, ((is ∙ ap pos (sym low), subst (λ k. HaveBits width (Helpers (first + 1)) k point) (sym high) rest.1.0), omega (arith, pow-suc 2 width, small, rest.1.1)))

-- ---- the law of the equation

pub row-said : (width number first : ℕ) (point : List ℤ) → AreIn first (bit_ranges width) point → row_value (bits_row width number first) point ≡ pos 0 → HaveBits width (Helpers first) (unsigned_abs (number_at point number)) point
row-said width number first point marks sum =
    let made = makes width first point marks in
    let same : made.0 ≡ unsigned_abs (number_at point number) = omega (arith, ints, sum, sum_is width number first made.0 point made.1.0 made.1.1) in
    subst (λ k. HaveBits width (Helpers first) k point) same made.1.0

-- the number is the one whose bits these are
pub number-said : (width number first n : ℕ) (point : List ℤ) → HaveBits width (Helpers first) n point → n < 2 ^ width → row_value (bits_row width number first) point ≡ pos 0 → number_at point number ≡ pos n
number-said width number first n point have below sum = omega (arith, ints, sum, sum_is width number first n point have below)

pub row-true : (width number first n : ℕ) (point : List ℤ) → HaveBits width (Helpers first) n point → n < 2 ^ width → number_at point number ≡ pos n → row_value (bits_row width number first) point ≡ pos 0
row-true width number first n point have below is = omega (arith, ints, is, sum_is width number first n point have below)

pub bits-law : (rows : List (List Part)) (point : List ℤ) (row width number first : ℕ) → slice_index_or rows row [] ≡ bits_row width number first → IsNumber width (number_at point number) → AreIn first (bit_ranges width) point
    → All (Any (IsTrueAt rows point)) (equals row (pos 0)) ↔ HaveBits width (Helpers first) (unsigned_abs (number_at point number)) point
bits-law rows point row width number first at is_number marks =
    let sum : term_value rows point (Row row) ≡ row_value (bits_row width number first) point = ap (λ parts. row_value parts point) at in
    let v = number_at point number in (
      λ all. row-said width number first point marks (sym sum ∙ equals-said rows point row (pos 0) (each-said (IsTrueAt rows point) (equals row (pos 0)) all)),
      λ have. all-true (IsTrueAt rows point) (equals row (pos 0)) (equals-true rows point row (pos 0) (sum ∙ row-true width number first (unsigned_abs v) point have (omega (arith, ints, is_number.0, is_number.1)) (omega (arith, ints, is_number.0)))),
    )

-- ---- a literal's bits

pub literal_bits : (width n : ℕ) (point : List ℤ) → number_at point 0 ≡ pos 0 → number_at point 1 ≡ pos 1 → HaveBits width (Literal n) n point
literal_bits zero n point at_0 at_1 = tt
literal_bits (suc width) n point at_0 at_1 = (
  elim (bit_cases (n % 2) (omega arith)) [
    | inl even ↦ ap (number_at point) even ∙ at_0 ∙ ap pos (sym even)
    | inr odd ↦ ap (number_at point) odd ∙ at_1 ∙ ap pos (sym odd)
  ],
  literal_bits width (n / 2) point at_0 at_1,
)

-- ---- ranges of bits

pub are_bits : (width first n : ℕ) (point : List ℤ) → HaveBits width (Helpers first) n point → AreIn first (bit_ranges width) point
are_bits zero first n point have = tt
are_bits (suc width) first n point have =
    let small : n % 2 < 2 = omega arith in
    ((omega (arith, ints, have.0), omega (arith, ints, have.0, small)), are_bits width (first + 1) (n / 2) point have.1)

pub AreIn-left : (count more first : ℕ) (point : List ℤ) → AreIn first (bit_ranges (count + more)) point → AreIn first (bit_ranges count) point
AreIn-left zero more first point are = tt
AreIn-left (suc count) more first point are =
    let next : suc count + more ≡ suc (count + more) = omega arith in
    let all = subst (λ k. AreIn first (bit_ranges k) point) next are in
    (all.0, AreIn-left count more (first + 1) point all.1)

pub AreIn-right : (count more first : ℕ) (point : List ℤ) → AreIn first (bit_ranges (count + more)) point → AreIn (first + count) (bit_ranges more) point
AreIn-right zero more first point are = rw (add-zero first) (subst (λ k. AreIn first (bit_ranges k) point) (zero-add more) are)
AreIn-right (suc count) more first point are =
    let next : suc count + more ≡ suc (count + more) = omega arith in
    let all = subst (λ k. AreIn first (bit_ranges k) point) next are in
    let at : first + 1 + count ≡ first + suc count = omega arith in
    subst (λ k. AreIn k (bit_ranges more) point) at (AreIn-right count more (first + 1) point all.1)

pub AreIn-join : (count more first : ℕ) (point : List ℤ) → AreIn first (bit_ranges count) point → AreIn (first + count) (bit_ranges more) point → AreIn first (bit_ranges (count + more)) point
AreIn-join zero more first point left right =
    subst (λ k. AreIn first (bit_ranges k) point) (sym (zero-add more)) (subst (λ k. AreIn k (bit_ranges more) point) (add-zero first) right)
AreIn-join (suc count) more first point left right =
    let next : suc (count + more) ≡ suc count + more = omega arith in
    let at : first + suc count ≡ first + 1 + count = omega arith in
    subst (λ k. AreIn first (bit_ranges k) point) next
    (left.0, AreIn-join count more (first + 1) point left.1 (subst (λ k. AreIn k (bit_ranges more) point) at right))

-- ---- bits that are put into a point

pub put_have : (width first n : ℕ) (rest point : List ℤ) → first + width ≤ length point → HaveBits width (Helpers first) n (put_from first (bits_of width n ++ rest) point)
put_have zero first n rest point within = tt
put_have (suc width) first n rest point within = (
  put-first first (pos (n % 2)) (bits_of width (n / 2) ++ rest) point (omega (arith, within)),
  put_have width (first + 1) (n / 2) rest (slice_set point first (pos (n % 2))) (rw length-set (omega (arith, within))),
)

pub put_length : (first : ℕ) (numbers point : List ℤ) → length (put_from first numbers point) ≡ length point
put_length first [] point = refl
put_length first (number ∷ numbers) point = put_length (first + 1) numbers (slice_set point first number) ∙ length-set point first number

pub put_append : (first : ℕ) (numbers more point : List ℤ) → put_from first (numbers ++ more) point ≡ put_from (first + length numbers) more (put_from first numbers point)
put_append first [] more point = ap (λ k. put_from k more point) (sym (add-zero first))
put_append first (number ∷ numbers) more point =
    let at : first + 1 + length numbers ≡ first + length (number ∷ numbers) = omega arith in
    put_append (first + 1) numbers more (slice_set point first number) ∙ ap (λ k. put_from k more (put_from (first + 1) numbers (slice_set point first number))) at

pub bits_length : (width n : ℕ) → length (bits_of width n) ≡ width
bits_length zero n = refl
bits_length (suc width) n = omega (arith, bits_length width (n / 2))

pub ranges_length : (count : ℕ) → length (bit_ranges count) ≡ count
ranges_length zero = refl
ranges_length (suc count) = omega (arith, ranges_length count)

-- ---- variables that stand before

pub lowest_before : (width vars : ℕ) (bits : BitVars) → StandBefore (suc width) vars bits → lowest bits < vars
lowest_before width vars (Helpers first) before = omega (arith, before)
lowest_before width vars (Literal number) before = omega (arith, before)

pub others_before : (width vars : ℕ) (bits : BitVars) → StandBefore (suc width) vars bits → StandBefore width vars (others bits)
others_before width vars (Helpers first) before = omega (arith, before)
others_before width vars (Literal number) before = before
