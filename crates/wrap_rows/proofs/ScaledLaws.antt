-- The laws of the piece of a product with a constant factor, or of a shift to the left by an amount below the width.
use Rattle.std.proofs.Common.{◌≡◌, ℕ, zero, suc, ◌+◌, ◌-◌, ◌*◌, ◌/◌, ◌%◌, ◌^◌, ◌<◌, ◌≤◌, Bool, true, false, ◌||◌, ℤ, pos, neg_ℤ, ◌+ℤ◌, ◌-ℤ◌, ◌*ℤ◌, ◌⊎◌, List, [], ◌∷◌, ◌++◌, length, length-append, append_assoc, map, refl, sym, ap, ap₂, ◌∙◌, inl, inr, subst, arith}
use Rattle.std.specs.Prelude.{◌↔◌, unsigned_abs}
use Rattle.std.specs.Ordering.{int_eq}
use Rattle.std.proofs.Math.IntN.{*ℤ_comm}
use Rattle.std.proofs.Math.Nat.{mul_comm, mul-lt-mul_of_pos_right}
use Rattle.std.proofs.lemmas.Int.{ints}
use Rattle.std.proofs.lemmas.List.{length-map}
use Rattle.std.proofs.lemmas.Nat.{pow_pos, div-add-mod', mod_below, div_below}
use Rattle.mix_system.specs.declared.literal.Lit.{Lit}
use Rattle.mix_system.specs.declared.literal.Term.TheVariants.{Row}
use Rattle.mix_system.specs.declared.row.Part.{Part}
use Rattle.mix_system.specs.Fits.{IsTrueAt, IsInRange, term_value}
use Rattle.mix_system.specs.Row.{number_at}
use Rattle.mix_system.specs.System.{System}
use Rattle.mix_system.proofs.SizeLaws.{unsigned_abs-le}
use Rattle.mix_system.proofs.ProductLaws.{*ℤ-add, *ℤ-neg_ℤ, neg_ℤ-*ℤ, *ℤ_assoc}
use Rattle.ir_meaning.specs.Whole.{IsWidth, signed}
use Rattle.ir_meaning.specs.Value.{poison_if}
use Rattle.ir_meaning.specs.Rows.{wrapped, mul_of, shl_of}
use Rattle.ir_meaning.proofs.WrapLaws.{power_below, shl-is}
use Rattle.wrap_rows.specs.declared.scaled.Scale.{Scale}
use Rattle.wrap_rows.specs.declared.scaled.Scale.TheVariants.{Before, Behind, Shift}
use Rattle.wrap_rows.specs.declared.scaled.Scaled.{Scaled}
use Rattle.wrap_rows.specs.Normal.{row_of, clause_of}
use Rattle.wrap_rows.specs.Layout.{Holds, clause_from}
use Rattle.wrap_rows.specs.Blocks.{equals, marks, sign_row, sign_clauses, sign_of}
use Rattle.wrap_rows.specs.Vars.{IsMark, IsNumber, value_at}
use Rattle.wrap_rows.specs.Piece.{Lays, put_from, AreIn, names_own_rows, mark_of}
use Rattle.wrap_rows.specs.Wrapping.{bars}
use Rattle.wrap_rows.specs.Scaled.{IsScale, factor, signed_factor, IsAt, vars, sign_ranges, ranges, carry_row, signed_row, signed_rows, signed_clauses, operands_of, operands, literals, layout_of, layout, exact, exact_signed, barred, is_poison, sign_numbers, numbers, CanTake, constant_value, scaled_value, meaning}
use Rattle.wrap_rows.proofs.CaseLaws.{Each, Some_of}
use Rattle.wrap_rows.proofs.BlockLaws.{each-said, all-true, Each-append, Each-left, Each-right, equals-said, equals-true}
use Rattle.wrap_rows.proofs.SignLaws.{half_of, sign-law, sign_of-IsMark}
use Rattle.wrap_rows.proofs.LinearLaws.{less_once}
use Rattle.wrap_rows.proofs.PutLaws.{put-before, put-first, put-second}
use Rattle.wrap_rows.proofs.PlaceLaws.{put-third, put-fourth}
use Rattle.wrap_rows.proofs.ReadLaws.{not_both, mark_of-IsMark, reads_two}
use Rattle.wrap_rows.proofs.MarkedLaws.{two_said, two_filled}
use Rattle.wrap_rows.proofs.LayLaws.{lays_staged}
use Rattle.wrap_rows.proofs.SmallLaws.{power_small}
use Rattle.wrap_rows.proofs.WrapLaws.{number_of, sign_cases}
use Rattle.wrap_rows.proofs.WrappedLaws.{Wraps, modulo-wraps, bars-said, signed_by}

own : (nuw nsw : Bool) (scale : Scale) (scaled : Scaled) (first : ℕ)
    → names_own_rows (record { rows = (layout_of nuw nsw scaled first).rows; clauses = equals 0 (pos 0) ++ (signed_clauses nsw scaled.width 1 ++ marks (first + 1) (operands_of scale scaled.a.mark scaled.constant_mark) (literals nuw nsw scaled first 2)) }) ≡ true
own true true (Before c) scaled first = refl
own true true (Behind c) scaled first = refl
own true true (Shift k) scaled first = refl
own true false (Before c) scaled first = refl
own true false (Behind c) scaled first = refl
own true false (Shift k) scaled first = refl
own false true (Before c) scaled first = refl
own false true (Behind c) scaled first = refl
own false true (Shift k) scaled first = refl
own false false (Before c) scaled first = refl
own false false (Behind c) scaled first = refl
own false false (Shift k) scaled first = refl

pub own_rows : (scaled : Scaled) (first : ℕ) → names_own_rows (layout scaled first) ≡ true
own_rows scaled first = own scaled.flags.nuw scaled.flags.nsw scaled.scale scaled first

-- ---- the sizes of the factor

pub factor_small : (width : ℕ) (scale : Scale) → IsWidth width → IsScale width scale → factor scale ≤ 2 ^ 32
factor_small width (Before c) w is = omega (arith, is, power_small width w.greatest)
factor_small width (Behind c) w is = omega (arith, is, power_small width w.greatest)
factor_small width (Shift k) w is = power_small k (omega (arith, is, w.greatest))

half_power : (width : ℕ) → IsWidth width → 2 ^ (width - 1) ≤ 2 ^ 31
half_power width w = power_below (width - 1) width w (omega (arith, w.least))

signed_small : (width n : ℕ) → IsWidth width → n < 2 ^ width → unsigned_abs (signed width n) ≤ 2 ^ 31
signed_small width n w below =
    let half = half_power width w in
    let all = half_of width w.least in
    elim (sign_cases width n (sign_of width (pos n)) refl) [
      | inl plain ↦ unsigned_abs-le (2 ^ 31) (signed width n) (omega (arith, ints, plain.reads)) (omega (arith, ints, plain.reads, plain.small, half))
      | inr lowered ↦ unsigned_abs-le (2 ^ 31) (signed width n) (omega (arith, ints, lowered.reads, lowered.large, half, all)) (omega (arith, ints, lowered.reads, below))
    ]

pub signed_factor_small : (width : ℕ) (scale : Scale) → IsWidth width → IsScale width scale → unsigned_abs (signed_factor width scale) ≤ 2 ^ 31
signed_factor_small width (Before c) w is = signed_small width c w is
signed_factor_small width (Behind c) w is = signed_small width c w is
signed_factor_small width (Shift k) w is = power_below k width w is

-- ---- the rows' sums

carry_sum : (f p : ℕ) (a x q : ℤ)
    → pos f *ℤ a +ℤ (neg_ℤ (pos 1) *ℤ x +ℤ (neg_ℤ (pos p) *ℤ q +ℤ pos 0)) ≡ pos f *ℤ a -ℤ (x +ℤ (pos p *ℤ q))
carry_sum f p a x q = omega (arith, ints, less_once x, neg_ℤ-*ℤ (pos p) q)

-- a factor of the operand is one of its signed reading and of 2^width times the sign
signed_sum : (f : ℤ) (p : ℕ) (a s : ℤ) → f *ℤ a +ℤ (neg_ℤ (f *ℤ pos p) *ℤ s +ℤ pos 0) ≡ (a -ℤ (pos p *ℤ s)) *ℤ f
signed_sum f p a s =
    let t = pos p *ℤ s in
    let less = neg_ℤ-*ℤ (f *ℤ pos p) s in
    let same = *ℤ_assoc f (pos p) s in
    let spread : f *ℤ (a +ℤ neg_ℤ t) ≡ f *ℤ a +ℤ f *ℤ neg_ℤ t = *ℤ-add a (neg_ℤ t) f in
    let taken : f *ℤ neg_ℤ t ≡ neg_ℤ (f *ℤ t) = *ℤ-neg_ℤ t f in
    let minus : a -ℤ t ≡ a +ℤ neg_ℤ t = omega (arith, ints) in
    let turned : (a -ℤ t) *ℤ f ≡ f *ℤ (a +ℤ neg_ℤ t) = *ℤ_comm (a -ℤ t) f ∙ ap (λ z. f *ℤ z) minus in
    omega (arith, ints, less, same, spread, taken, turned)

-- the exact result as a product over whole numbers
exact_is : (f n : ℕ) (a : ℤ) → pos n ≡ a → pos f *ℤ a ≡ pos (n * f)
exact_is f n a is = ap (λ z. pos f *ℤ z) (sym is) ∙ ap pos (mul_comm f n)

-- the carry is below the factor
carry_below : (p n f : ℕ) → 0 < p → n < p → (n * f) / p ≤ f - 1
carry_below p n zero above below =
    let none : n * zero ≡ 0 = omega arith in
    let small : 0 / p < 1 = div_below 0 p 1 above (omega (arith, above)) in
    subst (λ m. m / p ≤ 0) (sym none) (omega (arith, small))
carry_below p n (suc f) above below =
    let less : n * suc f < p * suc f = mul-lt-mul_of_pos_right below (omega arith) in
    let turned : p * suc f ≡ suc f * p = mul_comm p (suc f) in
    omega (arith, div_below (n * suc f) p (suc f) above (omega (arith, less, turned)))

-- ---- what the piece's variables say

module _ (scaled : Scaled) (first : ℕ) (point : List ℤ) (is_at : IsAt scaled first) (takes : CanTake scaled point) where
  abbrev a_here : ℤ
  a_here = number_at point scaled.a.number

  whole_a : pos (unsigned_abs a_here) ≡ a_here
  whole_a = number_of a_here takes.a.number.0

  small_a : unsigned_abs a_here < 2 ^ scaled.width
  small_a = omega (arith, ints, takes.a.number.1, whole_a)

  abbrev rows_of : (nsw : Bool) → List (List Part)
  rows_of nsw = carry_row scaled first ∷ signed_rows nsw scaled (first + 1 + 1 + 1)

  abbrev Clauses_of : (nsw : Bool) → List (List Lit) → Type 0
  Clauses_of nsw clauses = Each (Some_of (IsTrueAt (rows_of nsw) point)) clauses

  -- the sign, where it stands, is the operand's
  abbrev IsSign : (nsw : Bool) → Type 0
  IsSign nsw = nsw ≡ true → number_at point (first + 1 + 1 + 1) ≡ sign_of scaled.width a_here

  sign_means : (nsw : Bool) → IsSign nsw → nsw ≡ true → term_value (rows_of nsw) point (Row 2) ≡ exact_signed scaled point
  sign_means true is set =
      let f = signed_factor scaled.width scaled.scale in
      let s = number_at point (first + 1 + 1 + 1) in
      signed_sum f (2 ^ scaled.width) a_here s ∙ ap (λ z. z *ℤ f) (sym (signed_by scaled.width a_here s is_at.width takes.a.number (is set)))
  sign_means false is set = absurd (not_both false set refl)

  sign_said : (nsw : Bool) → AreIn (first + 1 + 1 + 1) (sign_ranges nsw) point → Clauses_of nsw (signed_clauses nsw scaled.width 1) → IsSign nsw
  sign_said true in_ranges each set =
      (sign-law (rows_of true) point 1 scaled.width scaled.a.number (first + 1 + 1 + 1) is_at.width refl takes.a.number in_ranges.0).0
      (all-true (IsTrueAt (rows_of true) point) (sign_clauses scaled.width 1) each)
  sign_said false in_ranges each set = absurd (not_both false set refl)

  sign_in : (nsw : Bool) → IsSign nsw → AreIn (first + 1 + 1 + 1) (sign_ranges nsw) point
  sign_in true is = (subst IsMark (sym (is refl)) (sign_of-IsMark scaled.width a_here), tt)
  sign_in false is = tt

  sign_true : (nsw : Bool) → IsSign nsw → Clauses_of nsw (signed_clauses nsw scaled.width 1)
  sign_true true is =
      each-said (IsTrueAt (rows_of true) point) (sign_clauses scaled.width 1)
      ((sign-law (rows_of true) point 1 scaled.width scaled.a.number (first + 1 + 1 + 1) is_at.width refl takes.a.number (sign_in true is).0).1 (is refl))
  sign_true false is = tt

  -- the row of the carry is 0 exactly where number and carry make up the exact result
  equation_wraps : (x q : ℤ) → IsNumber scaled.width x → pos (factor scaled.scale) *ℤ a_here -ℤ (x +ℤ (pos (2 ^ scaled.width) *ℤ q)) ≡ pos 0 → Wraps scaled.width (pos (exact scaled point)) x q
  equation_wraps x q is_x none = record {
    number = is_x;
    sum = omega (arith, ints, none, exact_is (factor scaled.scale) (unsigned_abs a_here) a_here whole_a);
  }

  wraps_equation : (x q : ℤ) → Wraps scaled.width (pos (exact scaled point)) x q → pos (factor scaled.scale) *ℤ a_here -ℤ (x +ℤ (pos (2 ^ scaled.width) *ℤ q)) ≡ pos 0
  wraps_equation x q wraps = omega (arith, ints, wraps.sum, exact_is (factor scaled.scale) (unsigned_abs a_here) a_here whole_a)

-- ---- marks, in the order of the operands

swapped : (a b c : Bool) → (a || (b || c)) ≡ (b || (a || c))
swapped true true c = refl
swapped true false c = refl
swapped false true c = refl
swapped false false c = refl

swapped_claims : {A B C : Type 0} → A ⊎ (B ⊎ C) → B ⊎ (A ⊎ C)
swapped_claims either = elim either [ inl a ↦ inr (inl a) | inr rest ↦ elim rest [ inl b ↦ inl b | inr c ↦ inr (inr c) ] ]

module _ (rows : List (List Part)) (point : List ℤ) (mark a constant : ℕ) (lits : List Lit) (bad : Bool) where
  abbrev Lists : Type 0
  Lists = Some_of (IsTrueAt rows point) lits ↔ bad ≡ true

  abbrev IsBad : Type 0
  IsBad = (number_at point a ≡ pos 1) ⊎ ((number_at point constant ≡ pos 1) ⊎ (bad ≡ true))

  marks_said : (scale : Scale) → IsMark (number_at point mark) → IsMark (number_at point a) → IsMark (number_at point constant) → Lists
      → Each (Some_of (IsTrueAt rows point)) (marks mark (operands_of scale a constant) lits) → number_at point mark ≡ pos 1 ↔ IsBad
  marks_said (Before c) is_mark is_a is_constant lists each =
      let says = two_said rows point mark constant a lits bad is_mark is_constant is_a lists each in
      (λ one. swapped_claims (says.0 one), λ either. says.1 (swapped_claims either))
  marks_said (Behind c) is_mark is_a is_constant lists each = two_said rows point mark a constant lits bad is_mark is_a is_constant lists each
  marks_said (Shift k) is_mark is_a is_constant lists each = two_said rows point mark a constant lits bad is_mark is_a is_constant lists each

  marks_filled : (scale : Scale) → number_at point mark ≡ mark_of (int_eq (number_at point a) (pos 1) || (int_eq (number_at point constant) (pos 1) || bad)) → IsMark (number_at point a) → IsMark (number_at point constant) → Lists
      → Each (Some_of (IsTrueAt rows point)) (marks mark (operands_of scale a constant) lits)
  marks_filled (Before c) is is_a is_constant lists =
      two_filled rows point mark constant a lits bad (is ∙ ap mark_of (swapped (int_eq (number_at point a) (pos 1)) (int_eq (number_at point constant) (pos 1)) bad)) is_constant is_a lists
  marks_filled (Behind c) is is_a is_constant lists = two_filled rows point mark a constant lits bad is is_a is_constant lists
  marks_filled (Shift k) is is_a is_constant lists = two_filled rows point mark a constant lits bad is is_a is_constant lists

-- ---- what it means

-- the exact result of the signed readings, of an operand that is a number
abbrev signed_exact : ℕ → Scale → ℕ → ℤ
signed_exact width scale n = signed width n *ℤ signed_factor width scale

means : (scale : Scale) (scaled : Scaled) (a x m ma mk : ℤ) (bad : Bool) → IsScale scaled.width scale
    → (m ≡ pos 1 ↔ ((ma ≡ pos 1) ⊎ ((mk ≡ pos 1) ⊎ (bad ≡ true))))
    → wrapped scaled.flags scaled.width (pos (unsigned_abs a * factor scale)) (signed_exact scaled.width scale (unsigned_abs a)) ≡ poison_if bad (unsigned_abs x)
    → poison_if (int_eq m (pos 1)) (unsigned_abs x) ≡ scaled_value scale scaled (poison_if (int_eq ma (pos 1)) (unsigned_abs a)) (constant_value scale mk)
means (Before c) scaled a x m ma mk bad is marked says =
    let n = unsigned_abs a in
    let width = scaled.width in
    reads_two (mul_of scaled.flags width) x (pos c) a m mk ma bad (λ one. swapped_claims (marked.0 one), λ either. marked.1 (swapped_claims either))
    (ap₂ (λ u v. wrapped scaled.flags width (pos u) v) (mul_comm c n) (*ℤ_comm (signed width c) (signed width n)) ∙ says)
means (Behind c) scaled a x m ma mk bad is marked says = reads_two (mul_of scaled.flags scaled.width) x a (pos c) m ma mk bad marked says
means (Shift k) scaled a x m ma mk bad is marked says =
    reads_two (shl_of scaled.flags scaled.width) x a (pos k) m ma mk bad marked (sym (shl-is scaled.flags scaled.width (unsigned_abs a) k is) ∙ says)

pub sound : (scaled : Scaled) (first : ℕ) (point : List ℤ) → IsAt scaled first → CanTake scaled point → AreIn first (ranges scaled) point → Holds (layout scaled first) point → value_at (vars scaled first) point ≡ meaning scaled point
sound scaled first point is_at takes in_ranges holds =
    let nsw = scaled.flags.nsw in
    let width = scaled.width in
    let rows = rows_of scaled first point is_at takes nsw in
    let says = Some_of (IsTrueAt rows point) in
    let a = number_at point scaled.a.number in
    let x = number_at point first in
    let q = number_at point (first + 1 + 1) in
    let lits = literals scaled.flags.nuw nsw scaled first 2 in
    let bad = barred scaled point in
    let own = signed_clauses nsw width 1 in
    let last = marks (first + 1) (operands scaled) lits in
    let each = each-said (IsTrueAt rows point) (layout scaled first).clauses holds in
    let equation : term_value rows point (Row 0) ≡ pos 0 = equals-said rows point 0 (pos 0) (each.0, (each.1.0, tt)) in
    let is_x : IsNumber width x = (in_ranges.0.0, omega (arith, ints, in_ranges.0.1, pow_pos width)) in
    let wraps = equation_wraps scaled first point is_at takes x q is_x (sym (carry_sum (factor scaled.scale) (2 ^ width) a x q) ∙ equation) in
    let sign = sign_said scaled first point is_at takes nsw in_ranges.1.1.1 (Each-left says own last each.1.1) in
    let lists = bars-said rows point scaled.flags.nuw nsw width (first + 1 + 1) 2 (pos (exact scaled point)) (exact_signed scaled point) x wraps (sign_means scaled first point is_at takes nsw sign) in
    let marked = marks_said rows point (first + 1) scaled.a.mark scaled.constant_mark lits bad scaled.scale in_ranges.1.0 takes.a.mark takes.constant_mark lists (Each-right says own last each.1.1) in
    means scaled.scale scaled a x (number_at point (first + 1)) (number_at point scaled.a.mark) (number_at point scaled.constant_mark) bad is_at.scale marked
    (ap (poison_if bad) (modulo-wraps width (pos (exact scaled point)) x q wraps))

-- ---- what is filled in

-- the piece's own variables have the numbers that the operands give
record IsFilled (scaled : Scaled) (first : ℕ) (point : List ℤ) : Type 0 where
  number_is : number_at point first ≡ pos (exact scaled point % 2 ^ scaled.width)
  mark_is : number_at point (first + 1) ≡ mark_of (is_poison scaled point)
  carry_is : number_at point (first + 1 + 1) ≡ pos (exact scaled point / 2 ^ scaled.width)
  sign_is : scaled.flags.nsw ≡ true → number_at point (first + 1 + 1 + 1) ≡ sign_of scaled.width (number_at point scaled.a.number)

filled : (scaled : Scaled) (first : ℕ) (point : List ℤ) → IsAt scaled first → CanTake scaled point → IsFilled scaled first point → AreIn first (ranges scaled) point × Holds (layout scaled first) point
filled scaled first point is_at takes is =
    let nsw = scaled.flags.nsw in
    let width = scaled.width in
    let p = 2 ^ width in
    let f = factor scaled.scale in
    let e = exact scaled point in
    let rows = rows_of scaled first point is_at takes nsw in
    let says = Some_of (IsTrueAt rows point) in
    let a = number_at point scaled.a.number in
    let x = number_at point first in
    let q = number_at point (first + 1 + 1) in
    let lits = literals scaled.flags.nuw nsw scaled first 2 in
    let bad = barred scaled point in
    let below = mod_below e p (pow_pos width) in
    let product : pos p *ℤ q ≡ pos (p * (e / p)) = ap (λ z. pos p *ℤ z) is.carry_is in
    let wraps : Wraps width (pos e) x q = record {
      number = (omega (arith, ints, is.number_is), omega (arith, ints, is.number_is, below));
      sum = omega (arith, ints, is.number_is, product, div-add-mod' e p, mul_comm p (e / p));
    } in
    let equation : term_value rows point (Row 0) ≡ pos 0 = carry_sum f p a x q ∙ wraps_equation scaled first point is_at takes x q wraps in
    let lists = bars-said rows point scaled.flags.nuw nsw width (first + 1 + 1) 2 (pos e) (exact_signed scaled point) x wraps (sign_means scaled first point is_at takes nsw is.sign_is) in
    let is_mark : IsMark (number_at point (first + 1)) = subst IsMark (sym is.mark_is) (mark_of-IsMark (is_poison scaled point)) in
    let carry = carry_below p (unsigned_abs a) f (pow_pos width) (small_a scaled first point is_at takes) in
    let is_carry : IsInRange (pos 0, pos (f - 1)) q = (omega (arith, ints, is.carry_is), omega (arith, ints, is.carry_is, carry)) in (
      ((wraps.number.0, omega (arith, ints, wraps.number.1)), (is_mark, (is_carry, sign_in scaled first point is_at takes nsw is.sign_is))),
      all-true (IsTrueAt rows point) (layout scaled first).clauses
          (Each-append says (equals 0 (pos 0)) (signed_clauses nsw width 1 ++ marks (first + 1) (operands scaled) lits)
          (equals-true rows point 0 (pos 0) equation)
          (Each-append says (signed_clauses nsw width 1) (marks (first + 1) (operands scaled) lits)
          (sign_true scaled first point is_at takes nsw is.sign_is)
          (marks_filled rows point (first + 1) scaled.a.mark scaled.constant_mark lits bad scaled.scale is.mark_is takes.a.mark takes.constant_mark lists))),
    )

-- ---- the point that is filled in

sign_put : (nsw : Bool) (first : ℕ) (point : List ℤ) (x m q s : ℤ) → first + (3 + length (sign_ranges nsw)) ≤ length point → nsw ≡ true
    → number_at (put_from first (x ∷ m ∷ q ∷ sign_numbers nsw s) point) (first + 1 + 1 + 1) ≡ s
sign_put true first point x m q s within set = put-fourth first x m q s [] point (omega (arith, within))
sign_put false first point x m q s within set = absurd (not_both false set refl)

pub complete : (scaled : Scaled) (first : ℕ) (point : List ℤ) → IsAt scaled first → CanTake scaled point → first + length (ranges scaled) ≤ length point → AreIn first (ranges scaled) (put_from first (numbers scaled point) point) × Holds (layout scaled first) (put_from first (numbers scaled point) point)
complete scaled first point is_at takes within =
    let new = put_from first (numbers scaled point) point in
    let p = 2 ^ scaled.width in
    let f = factor scaled.scale in
    let sign = sign_of scaled.width (number_at point scaled.a.number) in
    let x = pos (exact scaled point % p) in
    let m = mark_of (is_poison scaled point) in
    let q = pos (exact scaled point / p) in
    let rest = sign_numbers scaled.flags.nsw sign in
    let a : number_at new scaled.a.number ≡ number_at point scaled.a.number = put-before first (numbers scaled point) point scaled.a.number is_at.a in
    let ma : number_at new scaled.a.mark ≡ number_at point scaled.a.mark = put-before first (numbers scaled point) point scaled.a.mark is_at.a_mark in
    let mk : number_at new scaled.constant_mark ≡ number_at point scaled.constant_mark = put-before first (numbers scaled point) point scaled.constant_mark is_at.constant_mark in
    let same_exact : exact scaled new ≡ exact scaled point = ap (λ z. unsigned_abs z * f) a in
    let same_barred : barred scaled new ≡ barred scaled point =
    ap (λ z. bars scaled.flags scaled.width (pos (unsigned_abs z * f)) (signed scaled.width (unsigned_abs z) *ℤ signed_factor scaled.width scaled.scale)) a in
    let same_poison : is_poison scaled new ≡ is_poison scaled point =
    ap₂ (λ u v. int_eq u (pos 1) || (int_eq v (pos 1) || barred scaled new)) ma mk
    ∙ ap (λ bad. int_eq (number_at point scaled.a.mark) (pos 1) || (int_eq (number_at point scaled.constant_mark) (pos 1) || bad)) same_barred in
    let new_takes : CanTake scaled new = record {
      a = record { number = subst (IsNumber scaled.width) (sym a) takes.a.number; mark = subst IsMark (sym ma) takes.a.mark };
      constant_mark = subst IsMark (sym mk) takes.constant_mark;
    } in
    filled scaled first new is_at new_takes (record {
      number_is = put-first first x (m ∷ q ∷ rest) point (omega (arith, within)) ∙ ap (λ e. pos (e % p)) (sym same_exact);
      mark_is = put-second first x m (q ∷ rest) point (omega (arith, within)) ∙ ap mark_of (sym same_poison);
      carry_is = put-third first x m q rest point (omega (arith, within)) ∙ ap (λ e. pos (e / p)) (sym same_exact);
      sign_is = λ set. sign_put scaled.flags.nsw first point x m q sign (omega (arith, within)) set ∙ ap (sign_of scaled.width) (sym a);
    })

-- ---- what is laid

pub lays_signed : (scaled : Scaled) (sign : ℕ) (nsw : Bool) (old one new : System) (parts : List Part) → nsw ≡ true
    → one ≡ record old { rows = old.rows ++ row_of (sign_row scaled.width scaled.a.number sign) ∷ []; clauses = old.clauses ++ map clause_of (sign_clauses scaled.width (length old.rows)) }
    → new ≡ record one { rows = one.rows ++ row_of parts ∷ [] } → parts ≡ signed_row scaled sign
    → new ≡ record old { rows = old.rows ++ map row_of (signed_rows nsw scaled sign); clauses = old.clauses ++ map clause_of (signed_clauses nsw scaled.width (length old.rows)) }
lays_signed scaled sign true old one new parts set first second is =
    let a = row_of (sign_row scaled.width scaled.a.number sign) in
    let clauses = old.clauses ++ map clause_of (sign_clauses scaled.width (length old.rows)) in
    second
    ∙ ap {A = System} (λ s. record s { rows = s.rows ++ row_of parts ∷ [] }) first
    ∙ ap (λ rows. let s : System = record { ranges = old.ranges; rows = rows; clauses = clauses } in s)
    (append_assoc old.rows (a ∷ []) (row_of parts ∷ []) ∙ ap {A = List Part} (λ p. old.rows ++ a ∷ row_of p ∷ []) is)
lays_signed scaled sign false old one new parts set first second is = absurd (not_both false set refl)

module _ (scaled : Scaled) (first : ℕ) (old one two : System) where
  -- the row of the carry stands
  abbrev pub HasCarry : Type 0
  HasCarry = one ≡ record old { rows = old.rows ++ row_of (carry_row scaled first) ∷ []; clauses = old.clauses ++ map clause_of (equals (length old.rows) (pos 0)) }

  -- and then the sign
  abbrev pub HasSign : Type 0
  HasSign = two ≡ record one { rows = one.rows ++ map row_of (signed_rows scaled.flags.nsw scaled (first + 1 + 1 + 1)); clauses = one.clauses ++ map clause_of (signed_clauses scaled.flags.nsw scaled.width (length one.rows)) }

  pub one_row : HasCarry → length one.rows ≡ length old.rows + 1
  one_row carried = ap {A = System} (λ s. length s.rows) carried ∙ length-append old.rows (row_of (carry_row scaled first) ∷ [])

  pub two_clauses : HasCarry → length one.clauses ≡ length old.clauses + 2
  two_clauses carried = ap {A = System} (λ s. length s.clauses) carried ∙ length-append old.clauses (map clause_of (equals (length old.rows) (pos 0)))

  signed_count : (nsw : Bool) (sign : ℕ) → nsw ≡ true → length (signed_rows nsw scaled sign) ≡ 2
  signed_count true sign set = refl
  signed_count false sign set = absurd (not_both false set refl)

  pub signed_row_stands : HasCarry → HasSign → scaled.flags.nsw ≡ true → length old.rows + 2 < length two.rows
  signed_row_stands carried says set =
      let more = signed_rows scaled.flags.nsw scaled (first + 1 + 1 + 1) in
      let all : length two.rows ≡ length one.rows + length (map row_of more) = ap {A = System} (λ s. length s.rows) says ∙ length-append one.rows (map row_of more) in
      omega (arith, all, one_row carried, length-map more row_of, signed_count scaled.flags.nsw (first + 1 + 1 + 1) set)

  pub clauses_so_far : HasCarry → HasSign → length two.clauses ≡ length old.clauses + 2 + length (signed_clauses scaled.flags.nsw scaled.width 0)
  clauses_so_far carried says =
      let more = map clause_of (signed_clauses scaled.flags.nsw scaled.width (length one.rows)) in
      let all : length two.clauses ≡ length one.clauses + length more = ap {A = System} (λ s. length s.clauses) says ∙ length-append one.clauses more in
      omega (arith, all, two_clauses carried, same_count scaled.flags.nsw (length one.rows))
    where
      same_count : (nsw : Bool) (row : ℕ) → length (map clause_of (signed_clauses nsw scaled.width row)) ≡ length (signed_clauses nsw scaled.width 0)
      same_count true row = refl
      same_count false row = refl

pub clause_count : (scaled : Scaled) (first row : ℕ) → length (layout scaled first).clauses ≡ 2 + (length (signed_clauses scaled.flags.nsw scaled.width 0) + length (marks (first + 1) (operands scaled) (literals scaled.flags.nuw scaled.flags.nsw scaled first row)))
clause_count scaled first row = counted scaled.flags.nuw scaled.flags.nsw scaled.scale
  where
    counted : (nuw nsw : Bool) (scale : Scale)
        → length (equals 0 (pos 0) ++ (signed_clauses nsw scaled.width 1 ++ marks (first + 1) (operands_of scale scaled.a.mark scaled.constant_mark) (literals nuw nsw scaled first 2)))
        ≡ 2 + (length (signed_clauses nsw scaled.width 0) + length (marks (first + 1) (operands_of scale scaled.a.mark scaled.constant_mark) (literals nuw nsw scaled first row)))
    counted true true (Before c) = refl
    counted true true (Behind c) = refl
    counted true true (Shift k) = refl
    counted true false (Before c) = refl
    counted true false (Behind c) = refl
    counted true false (Shift k) = refl
    counted false true (Before c) = refl
    counted false true (Behind c) = refl
    counted false true (Shift k) = refl
    counted false false (Before c) = refl
    counted false false (Behind c) = refl
    counted false false (Shift k) = refl

raised : (nuw nsw : Bool) (scale : Scale) (scaled : Scaled) (first r : ℕ)
    → map clause_of (equals r (pos 0)) ++ (map clause_of (signed_clauses nsw scaled.width (r + 1)) ++ map clause_of (marks (first + 1) (operands_of scale scaled.a.mark scaled.constant_mark) (literals nuw nsw scaled first (r + 2))))
    ≡ map (clause_from r) (equals 0 (pos 0) ++ (signed_clauses nsw scaled.width 1 ++ marks (first + 1) (operands_of scale scaled.a.mark scaled.constant_mark) (literals nuw nsw scaled first 2)))
raised true true (Before c) scaled first r = refl
raised true true (Behind c) scaled first r = refl
raised true true (Shift k) scaled first r = refl
raised true false (Before c) scaled first r = refl
raised true false (Behind c) scaled first r = refl
raised true false (Shift k) scaled first r = refl
raised false true (Before c) scaled first r = refl
raised false true (Behind c) scaled first r = refl
raised false true (Shift k) scaled first r = refl
raised false false (Before c) scaled first r = refl
raised false false (Behind c) scaled first r = refl
raised false false (Shift k) scaled first r = refl

pub lays : (scaled : Scaled) (first : ℕ) (old one two new : System)
    → one ≡ record old { rows = old.rows ++ row_of (carry_row scaled first) ∷ []; clauses = old.clauses ++ map clause_of (equals (length old.rows) (pos 0)) }
    → two ≡ record one { rows = one.rows ++ map row_of (signed_rows scaled.flags.nsw scaled (first + 1 + 1 + 1)); clauses = one.clauses ++ map clause_of (signed_clauses scaled.flags.nsw scaled.width (length one.rows)) }
    → new ≡ record two { clauses = two.clauses ++ map clause_of (marks (first + 1) (operands scaled) (literals scaled.flags.nuw scaled.flags.nsw scaled first (length old.rows + 2))) }
    → Lays (layout scaled first) old new
lays scaled first old one two new carried says third =
    let nuw = scaled.flags.nuw in
    let nsw = scaled.flags.nsw in
    lays_staged (carry_row scaled first) (signed_rows nsw scaled (first + 1 + 1 + 1)) (signed_clauses nsw scaled.width) (marks (first + 1) (operands scaled) (literals nuw nsw scaled first (length old.rows + 2))) old one two new carried says third
    ∙ ap (λ clauses. let s : System = record { ranges = old.ranges; rows = old.rows ++ map row_of (layout scaled first).rows; clauses = old.clauses ++ clauses } in s) (raised nuw nsw scaled.scale scaled first (length old.rows))
