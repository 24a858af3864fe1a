-- The ranges of the piece are narrow, and the numbers of its rows and clauses small.
use Rattle.std.proofs.Common.{◌≡◌, ℕ, zero, suc, ◌+◌, ◌*◌, ◌^◌, Bool, true, false, pos, [], ◌∷◌, ◌++◌, add-zero, refl, ap, ◌∙◌, arith}
use Rattle.std.specs.Prelude.{All, Option, None, Some}
use Rattle.std.proofs.Math.Nat.{pow-suc}
use Rattle.ir_meaning.specs.Whole.{IsWidth}
use Rattle.wrap_rows.specs.Normal.{sizes}
use Rattle.wrap_rows.specs.Blocks.{equals}
use Rattle.wrap_rows.specs.Small.{IsNarrow, IsShort, IsSmall}
use Rattle.wrap_rows.proofs.CaseLaws.{Each, All-from_Each}
use Rattle.wrap_rows.proofs.BlockLaws.{Each-append}
use Rattle.wrap_rows.proofs.SmallLaws.{power_small, number_narrow, mark_narrow, negation_size, IsLight, IsListed, short_by_test, small-from, equation-short, marks-short}
use Rattle.bit_rows.specs.declared.bits.BitVars.{BitVars}
use Rattle.bit_rows.specs.declared.bitwise.BitKind.{BitKind}
use Rattle.bit_rows.specs.declared.bitwise.BitKind.TheVariants.{And, Or, Xor}
use Rattle.bit_rows.specs.declared.bitwise.Bitwise.{Bitwise}
use Rattle.bit_rows.specs.Bits.{bit_ranges, minus_bits, bits_row, lowest, others}
use Rattle.bit_rows.specs.Bitwise.{IsAt, helper_count, bits_at, left_at, right_at, result_at, ranges, operand_rows, row_count, is_disjoint, excess_rows, operand_clauses, bit_clauses, bits_clauses, number_clauses, listed, mark_clauses, layout}

-- ---- ranges

bits_narrow : (count : ℕ) → Each IsNarrow (bit_ranges count)
bits_narrow zero = tt
bits_narrow (suc count) = (mark_narrow, bits_narrow count)

pub all_narrow : (bitwise : Bitwise) (first : ℕ) → IsAt bitwise first → All IsNarrow (ranges bitwise)
all_narrow bitwise first is_at =
    All-from_Each IsNarrow (ranges bitwise)
    (number_narrow bitwise.width is_at.width, (mark_narrow, bits_narrow (helper_count bitwise.a.literal bitwise.width + helper_count bitwise.b.literal bitwise.width + bitwise.width)))

-- ---- rows

-- the weights double
bits_sizes : (width place first : ℕ) → sizes (minus_bits width place first) + 2 ^ place ≡ 2 ^ (place + width)
bits_sizes zero place first = omega (arith, ap (λ k. 2 ^ k) (add-zero place))
bits_sizes (suc width) place first =
    let next : 2 ^ (place + 1) ≡ 2 ^ place * 2 = ap (λ k. 2 ^ k) (omega arith) ∙ pow-suc 2 place in
    let last : 2 ^ (place + 1 + width) ≡ 2 ^ (place + suc width) = ap (λ k. 2 ^ k) (omega arith) in
    omega (arith, negation_size (pos (2 ^ place)), next, last, bits_sizes width (place + 1) (first + 1))

row_light : (width number first : ℕ) → IsWidth width → IsLight (bits_row width number first)
row_light width number first w =
    let whole : 2 ^ (0 + width) ≡ 2 ^ width = ap (λ k. 2 ^ k) (omega arith) in
    omega (arith, whole, bits_sizes width 0 first, power_small width w.greatest)

operand_light : (literal : Option ℕ) (width number first : ℕ) → IsWidth width → Each IsLight (operand_rows literal width number first)
operand_light None width number first w = (row_light width number first w, tt)
operand_light (Some literal) width number first w = tt

excess_light : (disjoint : Bool) (bitwise : Bitwise) (first : ℕ) → Each IsLight (excess_rows disjoint bitwise first)
excess_light true bitwise first = (omega arith, tt)
excess_light false bitwise first = tt

-- ---- clauses

operand_short : (literal : Option ℕ) (row : ℕ) → Each (Each IsShort) (operand_clauses literal row)
operand_short None row = equation-short row
operand_short (Some literal) row = tt

bit_short : (kind : BitKind) (x a b : ℕ) → Each (Each IsShort) (bit_clauses kind x a b)
bit_short And x a b = short_by_test (bit_clauses And x a b) refl
bit_short Or x a b = short_by_test (bit_clauses Or x a b) refl
bit_short Xor x a b = short_by_test (bit_clauses Xor x a b) refl

bits_short : (kind : BitKind) (width x : ℕ) (a b : BitVars) → Each (Each IsShort) (bits_clauses kind width x a b)
bits_short kind zero x a b = tt
bits_short kind (suc width) x a b =
    Each-append (Each IsShort) (bit_clauses kind x (lowest a) (lowest b)) (bits_clauses kind width (x + 1) (others a) (others b))
    (bit_short kind x (lowest a) (lowest b)) (bits_short kind width (x + 1) (others a) (others b))

listed_short : (disjoint : Bool) (row : ℕ) → Each IsListed (listed disjoint row)
listed_short true row = (omega arith, tt)
listed_short false row = tt

pub all_small : (bitwise : Bitwise) (first : ℕ) → IsAt bitwise first → IsSmall (layout bitwise first)
all_small bitwise first is_at =
    let width = bitwise.width in
    let a = bitwise.a.literal in
    let b = bitwise.b.literal in
    let disjoint = is_disjoint bitwise.kind bitwise.flags in
    let next = right_at a width first in
    let bits = result_at a b width first in
    let row = row_count a + row_count b in
    let left = operand_rows a width bitwise.a.vars.number (left_at first) in
    let right = operand_rows b width bitwise.b.vars.number next in
    let own = bits_row width first bits ∷ excess_rows disjoint bitwise first in
    let bit = number_clauses a b bitwise first in
    let last = mark_clauses disjoint bitwise (first + 1) (row + 1) in
    let Short = Each IsShort in
    small-from (layout bitwise first)
    (Each-append IsLight left (right ++ own) (operand_light a width bitwise.a.vars.number (left_at first) is_at.width)
    (Each-append IsLight right own (operand_light b width bitwise.b.vars.number next is_at.width) (row_light width first bits is_at.width, excess_light disjoint bitwise first)))
    (Each-append Short (operand_clauses a 0) (operand_clauses b (row_count a) ++ (equals row (pos 0) ++ (bit ++ last))) (operand_short a 0)
    (Each-append Short (operand_clauses b (row_count a)) (equals row (pos 0) ++ (bit ++ last)) (operand_short b (row_count a))
    (Each-append Short (equals row (pos 0)) (bit ++ last) (equation-short row)
    (Each-append Short bit last (bits_short bitwise.kind width bits (bits_at a (left_at first)) (bits_at b next))
    (marks-short (first + 1) (bitwise.a.vars.mark ∷ bitwise.b.vars.mark ∷ []) (listed disjoint (row + 1)) (listed_short disjoint (row + 1)))))))
