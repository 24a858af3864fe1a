-- The laws of the piece of a shift to the right.
use Rattle.std.proofs.Common.{◌≡◌, ℕ, suc, ◌+◌, ◌-◌, ◌*◌, ◌/◌, ◌%◌, ◌^◌, ◌<◌, ◌≤◌, Bool, true, false, cond, not, ◌&&◌, ◌||◌, ◌==◌, nat_lt, nat_le, ℤ, pos, negsuc, ◌-ℤ◌, ◌*ℤ◌, ◌≤ℤ◌, List, [], ◌∷◌, ◌++◌, length, slice_set, refl, sym, ap, ◌∙◌, inl, inr, subst, arith}
use Rattle.std.specs.Prelude.{◌↔◌, unsigned_abs}
use Rattle.std.specs.Ordering.{int_eq}
use Rattle.std.proofs.Math.IntN.{*ℤ-zero}
use Rattle.std.proofs.Math.ListN.{length-set}
use Rattle.std.proofs.Math.Nat.{pow-le-pow_right, div-le_self}
use Rattle.std.proofs.lemmas.Bool.Decides.{nat_tests}
use Rattle.std.proofs.lemmas.Int.{ints}
use Rattle.std.proofs.lemmas.Nat.{pow_pos, pow-add, div-mul-add, mod-mul-add, div-add-mod', mod_below, div_below}
use Rattle.mix_system.specs.declared.literal.Term.TheVariants.{Var, Row}
use Rattle.mix_system.specs.declared.row.Part.{Part}
use Rattle.mix_system.specs.Fits.{IsTrueAt, term_value}
use Rattle.mix_system.specs.Row.{number_at}
use Rattle.mix_system.proofs.ProductLaws.{neg_ℤ-*ℤ}
use Rattle.ir_meaning.specs.Whole.{IsWidth, signed, modulo, floor}
use Rattle.ir_meaning.specs.Value.{poison_if}
use Rattle.ir_meaning.proofs.ModuloLaws.{modulo-pos, modulo-negsuc}
use Rattle.wrap_rows.specs.declared.shift_right.ShiftRight.{ShiftRight}
use Rattle.wrap_rows.specs.Normal.{sizes}
use Rattle.wrap_rows.specs.Layout.{Holds, at_least}
use Rattle.wrap_rows.specs.Blocks.{equals, marks, sign_clauses, sign_of}
use Rattle.wrap_rows.specs.Vars.{IsMark, IsNumber, value_at}
use Rattle.wrap_rows.specs.Piece.{put_from, AreIn, names_own_rows, mark_of}
use Rattle.wrap_rows.specs.ShiftRight.{IsAt, vars, helper_ranges, ranges, sign_at, rest_at, signed_row, rows_of, division_at, sign_clauses_of, listed, mark_clauses, layout_of, layout, raised, divided, is_barred, is_poison, helpers, numbers, CanTake, shift_of, meaning}
use Rattle.wrap_rows.proofs.CaseLaws.{by_test, Each, Some_of}
use Rattle.wrap_rows.proofs.BlockLaws.{each-said, all-true, Each-append, Each-left, Each-right, equals-said, equals-true}
use Rattle.wrap_rows.proofs.SignLaws.{sign-law, sign_of-IsMark}
use Rattle.wrap_rows.proofs.LinearLaws.{once, times_one, less_once}
use Rattle.wrap_rows.proofs.PutLaws.{put-before, put-first, put-second}
use Rattle.wrap_rows.proofs.ReadLaws.{not_both, mark_of-IsMark, flag_lists, reads_two}
use Rattle.wrap_rows.proofs.MarkedLaws.{two_said, two_filled}
use Rattle.wrap_rows.proofs.WrapLaws.{number_of, sign_cases}

-- ---- the rows that the clauses name

own_rows_of : (signed : Bool) (shift : ShiftRight) (first : ℕ) → names_own_rows (layout_of signed shift first) ≡ true
own_rows_of true shift first =
    by_test (λ test. names_own_rows (record { rows = rows_of true shift first; clauses = sign_clauses_of true shift ++ (equals 1 (pos 0) ++ marks (first + 1) (shift.a.mark ∷ shift.amount_mark ∷ []) (listed test (rest_at true first))) }) ≡ true) shift.flags.exact
    (λ passes. refl) (λ fails. refl)
own_rows_of false shift first =
    by_test (λ test. names_own_rows (record { rows = rows_of false shift first; clauses = equals 0 (pos 0) ++ marks (first + 1) (shift.a.mark ∷ shift.amount_mark ∷ []) (listed test (rest_at false first)) }) ≡ true) shift.flags.exact
    (λ passes. refl) (λ fails. refl)

pub own_rows : (shift : ShiftRight) (first : ℕ) → names_own_rows (layout shift first) ≡ true
own_rows shift first = own_rows_of shift.signed shift first

-- ---- the size of the signed row

power_small : (exponent most : ℕ) → exponent ≤ most → 2 ^ exponent ≤ 2 ^ most
power_small exponent most least = pow-le-pow_right {n = 2} (omega arith) {i = exponent} {j = most} least

pub signed_row_small : (shift : ShiftRight) (first : ℕ) → IsAt shift first → sizes (signed_row shift first) < 2 ^ 126
signed_row_small shift first is_at =
    let by_width : 2 ^ shift.width ≤ 2 ^ 32 = power_small shift.width 32 is_at.width.greatest in
    let by_amount : 2 ^ shift.amount ≤ 2 ^ 32 = power_small shift.amount 32 (omega (arith, is_at.below, is_at.width.greatest)) in
    let by_both : 2 ^ (shift.amount + shift.width) ≤ 2 ^ 64 = power_small (shift.amount + shift.width) 64 (omega (arith, is_at.below, is_at.width.greatest)) in
    omega (arith, ints, by_width, by_amount, by_both)

-- ---- the division

-- a number counted down from a multiple
flipped : (p count m n : ℕ) → 0 < p → n + suc m ≡ count * p → n ≡ (count - 1 - m / p) * p + (p - 1 - m % p)
flipped p count m n above sum =
    let below : m % p < p = mod_below m p above in
    let split = div-add-mod' m p in
    let enough : m / p < count = div_below m p count above (omega (arith, sum)) in
    let whole : count ≡ count - 1 - m / p + 1 + m / p = omega arith in
    let spread : count * p ≡ (count - 1 - m / p + 1 + m / p) * p = ap (λ j. j * p) whole in
    omega (arith, sum, spread, split, below)

flipped_quotient : (p count m n : ℕ) → 0 < p → n + suc m ≡ count * p → n / p ≡ count - 1 - m / p
flipped_quotient p count m n above sum =
    ap (λ z. z / p) (flipped p count m n above sum) ∙ div-mul-add (count - 1 - m / p) p (p - 1 - m % p) (omega (arith, above))

flipped_rest : (p count m n : ℕ) → 0 < p → n + suc m ≡ count * p → n % p ≡ p - 1 - m % p
flipped_rest p count m n above sum =
    ap (λ z. z % p) (flipped p count m n above sum) ∙ mod-mul-add (count - 1 - m / p) p (p - 1 - m % p) (omega (arith, above))

raised_small : (width amount n : ℕ) → n < 2 ^ (width - 1) → raised true width amount n ≡ n
raised_small width amount n below = grind (arith, nat_tests)

raised_large : (width amount n : ℕ) → 2 ^ (width - 1) ≤ n → raised true width amount n ≡ n + (2 ^ (amount + width) - 2 ^ width)
raised_large width amount n above = grind (arith, nat_tests)

room : (width amount : ℕ) → 2 ^ width ≤ 2 ^ (amount + width)
room width amount = pow-le-pow_right {n = 2} (omega arith) {i = width} {j = amount + width} (omega arith)

-- the shifted number
abbrev result : Bool → (width amount n : ℕ) → ℕ
result true width amount n = modulo width (floor (signed width n) (2 ^ amount))
result false width amount n = n / 2 ^ amount

-- the raised number divides as the number or its signed reading does
record Divides (is_signed : Bool) (width amount n : ℕ) : Type 0 where
  quotient : result is_signed width amount n ≡ raised is_signed width amount n / 2 ^ amount
  rest : n % 2 ^ amount ≡ raised is_signed width amount n % 2 ^ amount
  below : raised is_signed width amount n / 2 ^ amount < 2 ^ width

divides_small : (width amount n : ℕ) → n < 2 ^ width → n < 2 ^ (width - 1) → signed width n ≡ pos n → Divides true width amount n
divides_small width amount n within small reads =
    let same : raised true width amount n ≡ n = raised_small width amount n small in
    let below : n / 2 ^ amount < 2 ^ width = omega (arith, within, div-le_self n (2 ^ amount)) in record {
      quotient = ap (λ z. modulo width (floor z (2 ^ amount))) reads ∙ modulo-pos width 0 (n / 2 ^ amount) (n / 2 ^ amount) below (omega arith) ∙ ap (λ z. z / 2 ^ amount) (sym same);
      rest = ap (λ z. z % 2 ^ amount) (sym same);
      below = rw same below;
    }

divides_large : (width amount n : ℕ) → amount < width → n < 2 ^ width → 2 ^ (width - 1) ≤ n → signed width n ≡ pos n -ℤ pos (2 ^ width) → Divides true width amount n
divides_large width amount n less within large reads =
    let p = 2 ^ amount in
    let j = 2 ^ width - 1 - n in
    let above : 0 < p = pow_pos amount in
    let same : raised true width amount n ≡ n + (2 ^ (amount + width) - 2 ^ width) = raised_large width amount n large in
    let all : 2 ^ (amount + width) ≡ p * 2 ^ width = pow-add 2 amount width in
    let sum : raised true width amount n + suc j ≡ 2 ^ width * p = omega (arith, same, room width amount, all, within) in
    let split : width ≡ width - amount + amount = omega (arith, less) in
    let shared : 2 ^ width ≡ 2 ^ (width - amount) * p = ap (λ k. 2 ^ k) split ∙ pow-add 2 (width - amount) amount in
    let own_sum : n + suc j ≡ 2 ^ (width - amount) * p = omega (arith, shared, within) in
    let quotient = flipped_quotient p (2 ^ width) j (raised true width amount n) above sum in
    let small : j / p < 2 ^ width = omega (arith, within, div-le_self j p) in
    let negative : signed width n ≡ negsuc j = omega (arith, ints, reads, within) in record {
      quotient = ap (λ z. modulo width (floor z p)) negative ∙ modulo-negsuc width 0 (2 ^ width - 1 - j / p) (j / p) (omega (arith, small)) (omega (arith, small)) ∙ sym quotient;
      rest = flipped_rest p (2 ^ (width - amount)) j n above own_sum ∙ sym (flipped_rest p (2 ^ width) j (raised true width amount n) above sum);
      below = omega (arith, quotient, small);
    }

divides : (is_signed : Bool) (width amount n : ℕ) → amount < width → n < 2 ^ width → Divides is_signed width amount n
divides true width amount n less within =
    elim (sign_cases width n (sign_of width (pos n)) refl) [
      | inl plain ↦ divides_small width amount n within plain.small plain.reads
      | inr lowered ↦ divides_large width amount n less within lowered.large lowered.reads
    ]
divides false width amount n less within = record { quotient = refl; rest = refl; below = omega (arith, within, div-le_self n (2 ^ amount)) }

bars_rest : (t : ℕ) → not (t == 0) ≡ nat_lt 0 t
bars_rest t = grind (arith, nat_tests)

not_too_far : (width amount : ℕ) → amount < width → nat_le width amount ≡ false
not_too_far width amount less = grind (arith, nat_tests)

shift_is : (is_signed : Bool) (shift : ShiftRight) (n amount : ℕ) → shift_of is_signed shift n amount ≡ poison_if (nat_le shift.width amount || (shift.flags.exact && not (n % 2 ^ amount == 0))) (result is_signed shift.width amount n)
shift_is true shift n amount = refl
shift_is false shift n amount = refl

means : (shift : ShiftRight) (n : ℕ) → shift.amount < shift.width → n < 2 ^ shift.width
    → shift_of shift.signed shift n shift.amount ≡ poison_if (is_barred shift (raised shift.signed shift.width shift.amount n % 2 ^ shift.amount)) (raised shift.signed shift.width shift.amount n / 2 ^ shift.amount)
means shift n less within =
    let k = shift.amount in
    let whole = raised shift.signed shift.width k n in
    let law = divides shift.signed shift.width k n less within in
    let test : not (n % 2 ^ k == 0) ≡ nat_lt 0 (whole % 2 ^ k) = bars_rest (n % 2 ^ k) ∙ ap (nat_lt 0) law.rest in
    shift_is shift.signed shift n k
    ∙ ap (λ far. poison_if (far || (shift.flags.exact && not (n % 2 ^ k == 0))) (result shift.signed shift.width k n)) (not_too_far shift.width k less)
    ∙ ap (λ bars. poison_if (shift.flags.exact && bars) (result shift.signed shift.width k n)) test
    ∙ ap (poison_if (is_barred shift (whole % 2 ^ k))) law.quotient

-- ---- the layout at a point

module _ (shift : ShiftRight) (first : ℕ) (point : List ℤ) where
  abbrev a_here : ℤ
  a_here = number_at point shift.a.number

  abbrev x_here : ℤ
  x_here = number_at point first

  -- the sign, where it stands, is that of the operand
  abbrev IsSign : Bool → Type 0
  IsSign is_signed = is_signed ≡ true → number_at point (sign_at first) ≡ sign_of shift.width a_here

  sign_law : (is_signed : Bool) → IsWidth shift.width → IsNumber shift.width a_here → (is_signed ≡ true → IsMark (number_at point (sign_at first)))
      → Each (Some_of (IsTrueAt (rows_of is_signed shift first) point)) (sign_clauses_of is_signed shift) ↔ IsSign is_signed
  sign_law true w is_a is_mark =
      let law = sign-law (rows_of true shift first) point 0 shift.width shift.a.number (sign_at first) w refl is_a (is_mark refl) in (
        λ each passes. law.0 (all-true (IsTrueAt (rows_of true shift first) point) (sign_clauses shift.width 0) each),
        λ is. each-said (IsTrueAt (rows_of true shift first) point) (sign_clauses shift.width 0) (law.1 (is refl)),
      )
  sign_law false w is_a is_mark = (λ each passes. absurd (not_both false passes refl), λ is. tt)

  -- the division's row is what the raised number is more than quotient and rest make
  sum_law : (is_signed : Bool) (n : ℕ) → a_here ≡ pos n → IsSign is_signed
      → term_value (rows_of is_signed shift first) point (Row (division_at is_signed)) ≡ pos (raised is_signed shift.width shift.amount n) -ℤ (pos (2 ^ shift.amount) *ℤ x_here) -ℤ number_at point (rest_at is_signed first)
  sum_law true n is sign =
      let s = number_at point (sign_at first) in
      let r = number_at point (first + 1 + 1 + 1) in
      let less_power = neg_ℤ-*ℤ (pos (2 ^ shift.width)) s in
      let less_quotient = neg_ℤ-*ℤ (pos (2 ^ shift.amount)) x_here in
      elim (sign_cases shift.width n s (sign refl ∙ ap (sign_of shift.width) is)) [
        | inl plain ↦
            let none : pos (2 ^ shift.width) *ℤ s ≡ pos 0 = ap (λ z. pos (2 ^ shift.width) *ℤ z) plain.sign_is ∙ *ℤ-zero (pos (2 ^ shift.width)) in
            let none_raised : pos (2 ^ (shift.amount + shift.width)) *ℤ s ≡ pos 0 = ap (λ z. pos (2 ^ (shift.amount + shift.width)) *ℤ z) plain.sign_is ∙ *ℤ-zero (pos (2 ^ (shift.amount + shift.width))) in
            omega (arith, ints, is, once a_here, less_power, less_quotient, less_once r, none, none_raised, raised_small shift.width shift.amount n plain.small)
        | inr lowered ↦
            let all : pos (2 ^ shift.width) *ℤ s ≡ pos (2 ^ shift.width) = ap (λ z. pos (2 ^ shift.width) *ℤ z) lowered.sign_is ∙ times_one (pos (2 ^ shift.width)) in
            let all_raised : pos (2 ^ (shift.amount + shift.width)) *ℤ s ≡ pos (2 ^ (shift.amount + shift.width)) = ap (λ z. pos (2 ^ (shift.amount + shift.width)) *ℤ z) lowered.sign_is ∙ times_one (pos (2 ^ (shift.amount + shift.width))) in
            omega (arith, ints, is, once a_here, less_power, less_quotient, less_once r, all, all_raised, room shift.width shift.amount, raised_large shift.width shift.amount n lowered.large)
      ]
  sum_law false n is sign =
      omega (arith, ints, is, once a_here, neg_ℤ-*ℤ (pos (2 ^ shift.amount)) x_here, less_once (number_at point (first + 1 + 1)))

  listed_law : (rows : List (List Part)) (rest t : ℕ) → number_at point rest ≡ pos t → Some_of (IsTrueAt rows point) (listed shift.flags.exact rest) ↔ is_barred shift t ≡ true
  listed_law rows rest t is =
      flag_lists (IsTrueAt rows point) shift.flags.exact (nat_lt 0 t) (at_least (Var rest) (pos 1))
      (λ above. passes_above (omega (arith, ints, is, above)), λ passes. omega (arith, ints, is, above_passes passes))
    where
      passes_above : 0 < t → nat_lt 0 t ≡ true
      passes_above above = grind (arith, nat_tests)

      above_passes : nat_lt 0 t ≡ true → 0 < t
      above_passes passes = grind (arith, nat_tests)

-- ---- soundness

-- what the division's row says of quotient and rest
divided_by : (p whole : ℕ) (x r : ℤ) → pos 0 ≤ℤ x → pos 0 ≤ℤ r → pos whole -ℤ (pos p *ℤ x) -ℤ r ≡ pos 0 → whole ≡ unsigned_abs x * p + unsigned_abs r
divided_by p whole x r low_x low_r sum =
    let product : pos p *ℤ x ≡ pos (p * unsigned_abs x) = ap (λ z. pos p *ℤ z) (sym (number_of x low_x)) in
    omega (arith, ints, product, number_of r low_r, sum)

helpers_in : (is_signed : Bool) (amount first : ℕ) (point : List ℤ) → AreIn (first + 1 + 1) (helper_ranges is_signed amount) point
    → (is_signed ≡ true → IsMark (number_at point (sign_at first))) × IsNumber amount (number_at point (rest_at is_signed first))
helpers_in true amount first point in_ranges = (λ passes. in_ranges.0, (in_ranges.1.0.0, omega (arith, ints, in_ranges.1.0.1, pow_pos amount)))
helpers_in false amount first point in_ranges = (λ passes. absurd (not_both false passes refl), (in_ranges.0.0, omega (arith, ints, in_ranges.0.1, pow_pos amount)))

pub sound : (shift : ShiftRight) (first : ℕ) (point : List ℤ) → IsAt shift first → CanTake shift point → AreIn first (ranges shift) point → Holds (layout shift first) point → value_at (vars shift first) point ≡ meaning shift point
sound shift first point is_at takes in_ranges holds =
    let width = shift.width in
    let p = 2 ^ shift.amount in
    let rows = rows_of shift.signed shift first in
    let says = Some_of (IsTrueAt rows point) in
    let a = number_at point shift.a.number in
    let x = number_at point first in
    let r = number_at point (rest_at shift.signed first) in
    let n = unsigned_abs a in
    let t = unsigned_abs r in
    let whole_a : pos n ≡ a = number_of a takes.a.number.0 in
    let within : n < 2 ^ width = omega (arith, ints, takes.a.number.1, whole_a) in
    let own = sign_clauses_of shift.signed shift in
    let sum_clauses = equals (division_at shift.signed) (pos 0) in
    let last = mark_clauses shift.signed shift first in
    let each = each-said (IsTrueAt rows point) (layout shift first).clauses holds in
    let later = Each-right says own (sum_clauses ++ last) each in
    let are = helpers_in shift.signed shift.amount first point in_ranges.1.1 in
    let sign = (sign_law shift first point shift.signed is_at.width takes.a.number are.0).0 (Each-left says own (sum_clauses ++ last) each) in
    let none : term_value rows point (Row (division_at shift.signed)) ≡ pos 0 = equals-said rows point (division_at shift.signed) (pos 0) (Each-left says sum_clauses last later) in
    let whole = raised shift.signed width shift.amount n in
    let is_whole : whole ≡ unsigned_abs x * p + t = divided_by p whole x r in_ranges.0.0 are.1.0 (sym (sum_law shift first point shift.signed n (sym whole_a) sign) ∙ none) in
    let rest_small : t < p = omega (arith, ints, are.1.1, number_of r are.1.0) in
    let quotient : whole / p ≡ unsigned_abs x = ap (λ z. z / p) is_whole ∙ div-mul-add (unsigned_abs x) p t rest_small in
    let rest : whole % p ≡ t = ap (λ z. z % p) is_whole ∙ mod-mul-add (unsigned_abs x) p t rest_small in
    let marked = two_said rows point (first + 1) shift.a.mark shift.amount_mark (listed shift.flags.exact (rest_at shift.signed first)) (is_barred shift t) in_ranges.1.0 takes.a.mark takes.amount_mark
    (listed_law shift first point rows (rest_at shift.signed first) t (sym (number_of r are.1.0))) (Each-right says sum_clauses last later) in
    reads_two (shift_of shift.signed shift) x a (pos shift.amount) (number_at point (first + 1)) (number_at point shift.a.mark) (number_at point shift.amount_mark) (is_barred shift t) marked
    (means shift n is_at.below within ∙ ap (λ z. poison_if (is_barred shift z) (whole / p)) rest ∙ ap (poison_if (is_barred shift t)) quotient)

-- ---- completeness

-- the helpers are put in where they stand
record ArePut (is_signed : Bool) (first : ℕ) (sign rest : ℤ) (new : List ℤ) : Type 0 where
  sign_is : is_signed ≡ true → number_at new first ≡ sign
  rest_is : number_at new (cond is_signed (first + 1) first) ≡ rest

helpers_put : (is_signed : Bool) (first : ℕ) (sign rest : ℤ) (point : List ℤ) → first + length (helpers is_signed sign rest) ≤ length point → ArePut is_signed first sign rest (put_from first (helpers is_signed sign rest) point)
helpers_put true first sign rest point within = record {
  sign_is = λ passes. put-first first sign (rest ∷ []) point (omega (arith, within));
  rest_is = put-second first sign rest [] point (omega (arith, within));
}
helpers_put false first sign rest point within = record {
  sign_is = λ passes. absurd (not_both false passes refl);
  rest_is = put-first first rest [] point (omega (arith, within));
}

helpers_fit : (is_signed : Bool) (amount first : ℕ) (point : List ℤ) → (is_signed ≡ true → IsMark (number_at point (sign_at first))) → IsNumber amount (number_at point (rest_at is_signed first))
    → AreIn (first + 1 + 1) (helper_ranges is_signed amount) point
helpers_fit true amount first point is_mark is_rest = (is_mark refl, ((is_rest.0, omega (arith, ints, is_rest.1)), tt))
helpers_fit false amount first point is_mark is_rest = ((is_rest.0, omega (arith, ints, is_rest.1)), tt)

room_for_helpers : (is_signed : Bool) (width amount first most : ℕ) (sign rest : ℤ) → first + length ((pos 0, pos (2 ^ width - 1)) ∷ (pos 0, pos 1) ∷ helper_ranges is_signed amount) ≤ most → first + 1 + 1 + length (helpers is_signed sign rest) ≤ most
room_for_helpers true width amount first most sign rest within = omega (arith, within)
room_for_helpers false width amount first most sign rest within = omega (arith, within)

same_place : (is_signed : Bool) (first : ℕ) → cond is_signed (first + 1 + 1 + 1) (first + 1 + 1) ≡ rest_at is_signed first
same_place is_signed first = refl

divided_sum : (p whole : ℕ) (x r : ℤ) → x ≡ pos (whole / p) → r ≡ pos (whole % p) → pos whole -ℤ (pos p *ℤ x) -ℤ r ≡ pos 0
divided_sum p whole x r is_x is_r =
    let product : pos p *ℤ x ≡ pos (p * (whole / p)) = ap (λ z. pos p *ℤ z) is_x in
    omega (arith, ints, product, is_r, div-add-mod' whole p)

pub complete : (shift : ShiftRight) (first : ℕ) (point : List ℤ) → IsAt shift first → CanTake shift point → first + length (ranges shift) ≤ length point → AreIn first (ranges shift) (put_from first (numbers shift point) point) × Holds (layout shift first) (put_from first (numbers shift point) point)
complete shift first point is_at takes within =
    let width = shift.width in
    let p = 2 ^ shift.amount in
    let rows = rows_of shift.signed shift first in
    let new = put_from first (numbers shift point) point in
    let says = Some_of (IsTrueAt rows new) in
    let a = number_at point shift.a.number in
    let n = unsigned_abs a in
    let whole = divided shift point in
    let sign = sign_of width a in
    let x_number = pos (whole / p) in
    let m_number = mark_of (is_poison shift point) in
    let r_number = pos (whole % p) in
    let own = helpers shift.signed sign r_number in
    let whole_a : pos n ≡ a = number_of a takes.a.number.0 in
    let small : n < 2 ^ width = omega (arith, ints, takes.a.number.1, whole_a) in
    let law = divides shift.signed width shift.amount n is_at.below small in
    let before : List ℤ = slice_set (slice_set point first x_number) (first + 1) m_number in
    let enough = room_for_helpers shift.signed width shift.amount first (length point) sign r_number within in
    let kept_a : number_at new shift.a.number ≡ a = put-before first (numbers shift point) point shift.a.number is_at.a in
    let kept_ma : number_at new shift.a.mark ≡ number_at point shift.a.mark = put-before first (numbers shift point) point shift.a.mark is_at.a_mark in
    let kept_mk : number_at new shift.amount_mark ≡ number_at point shift.amount_mark = put-before first (numbers shift point) point shift.amount_mark is_at.amount_mark in
    let x : number_at new first ≡ x_number = put-first first x_number (m_number ∷ own) point (omega (arith, within)) in
    let m : number_at new (first + 1) ≡ m_number = put-second first x_number m_number own point (omega (arith, within)) in
    let put : ArePut shift.signed (first + 1 + 1) sign r_number new = helpers_put shift.signed (first + 1 + 1) sign r_number before (rw (length-set, length-set) enough) in
    let r : number_at new (rest_at shift.signed first) ≡ r_number = put.rest_is in
    let is_sign : IsSign shift first new shift.signed = λ passes. put.sign_is passes ∙ ap (sign_of width) (sym kept_a) in
    let sign_marks : shift.signed ≡ true → IsMark (number_at new (sign_at first)) = λ passes. subst IsMark (sym (put.sign_is passes)) (sign_of-IsMark width a) in
    let is_rest : IsNumber shift.amount (number_at new (rest_at shift.signed first)) = subst (IsNumber shift.amount) (sym r) (omega (arith, ints), omega (arith, ints, mod_below whole p (pow_pos shift.amount))) in
    let is_m : IsMark (number_at new (first + 1)) = subst IsMark (sym m) (mark_of-IsMark (is_poison shift point)) in
    let is_a : IsNumber width (number_at new shift.a.number) = subst (IsNumber width) (sym kept_a) takes.a.number in
    let is_ma : IsMark (number_at new shift.a.mark) = subst IsMark (sym kept_ma) takes.a.mark in
    let is_mk : IsMark (number_at new shift.amount_mark) = subst IsMark (sym kept_mk) takes.amount_mark in
    let sum : term_value rows new (Row (division_at shift.signed)) ≡ pos 0 =
    sum_law shift first new shift.signed n (kept_a ∙ sym whole_a) is_sign ∙ divided_sum p whole (number_at new first) (number_at new (rest_at shift.signed first)) x r in
    let barred = is_barred shift (whole % p) in
    let mark_here : number_at new (first + 1) ≡ mark_of (int_eq (number_at new shift.a.mark) (pos 1) || (int_eq (number_at new shift.amount_mark) (pos 1) || barred)) =
    m
    ∙ ap (λ z. mark_of (int_eq z (pos 1) || (int_eq (number_at point shift.amount_mark) (pos 1) || barred))) (sym kept_ma)
    ∙ ap (λ z. mark_of (int_eq (number_at new shift.a.mark) (pos 1) || (int_eq z (pos 1) || barred))) (sym kept_mk) in (
      ((omega (arith, ints, x), omega (arith, ints, x, law.below)), (is_m, helpers_fit shift.signed shift.amount first new sign_marks is_rest)),
      all-true (IsTrueAt rows new) (layout shift first).clauses
          (Each-append says (sign_clauses_of shift.signed shift) (equals (division_at shift.signed) (pos 0) ++ mark_clauses shift.signed shift first)
          ((sign_law shift first new shift.signed is_at.width is_a sign_marks).1 is_sign)
          (Each-append says (equals (division_at shift.signed) (pos 0)) (mark_clauses shift.signed shift first)
          (equals-true rows new (division_at shift.signed) (pos 0) sum)
          (two_filled rows new (first + 1) shift.a.mark shift.amount_mark (listed shift.flags.exact (rest_at shift.signed first)) barred mark_here is_ma is_mk
          (listed_law shift first new rows (rest_at shift.signed first) (whole % p) r)))),
    )
