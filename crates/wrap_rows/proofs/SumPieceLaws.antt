-- The laws of the piece of a sum or a difference.
use Rattle.std.proofs.Common.{◌≡◌, ℕ, ◌+◌, ◌^◌, ◌<◌, ◌≤◌, Bool, true, false, cond, ◌||◌, ℤ, pos, negsuc, neg_ℤ, ◌+ℤ◌, ◌-ℤ◌, ◌*ℤ◌, ◌<ℤ◌, ◌≤ℤ◌, List, [], ◌∷◌, ◌++◌, length, map, length-append, slice_set, refl, sym, ap, ap₂, ◌∙◌, subst, arith}
use Rattle.std.specs.Prelude.{int_lt, unsigned_abs}
use Rattle.std.specs.Ordering.{int_eq}
use Rattle.std.proofs.lemmas.Int.{ints}
use Rattle.std.proofs.lemmas.List.{length-map}
use Rattle.std.proofs.lemmas.Nat.{pow_pos}
use Rattle.mix_system.specs.declared.literal.Lit.{Lit}
use Rattle.mix_system.specs.declared.literal.Term.TheVariants.{Row}
use Rattle.mix_system.specs.declared.row.Part.{Part}
use Rattle.mix_system.specs.Fits.{IsTrueAt, IsInRange, term_value}
use Rattle.mix_system.specs.Row.{number_at, row_value}
use Rattle.mix_system.specs.System.{System}
use Rattle.mix_system.proofs.ProductLaws.{neg_ℤ-*ℤ}
use Rattle.ll_tree.specs.declared.op.Flags.{Flags}
use Rattle.ir_meaning.specs.Whole.{IsWidth, signed}
use Rattle.ir_meaning.specs.Value.{poison_if}
use Rattle.ir_meaning.specs.Rows.{wrapped}
use Rattle.wrap_rows.specs.declared.sum.SumKind.{SumKind}
use Rattle.wrap_rows.specs.declared.sum.SumKind.TheVariants.{Plus, Minus}
use Rattle.wrap_rows.specs.declared.sum.Sum.{Sum}
use Rattle.wrap_rows.specs.Normal.{row_of, clause_of}
use Rattle.wrap_rows.specs.Layout.{Holds, clause_from}
use Rattle.wrap_rows.specs.Blocks.{equals, marks, sign_row, sign_clauses, sign_of}
use Rattle.wrap_rows.specs.Vars.{IsMark, IsNumber, is_marked, value_at}
use Rattle.wrap_rows.specs.Piece.{Lays, put_from, AreIn, names_own_rows, mark_of}
use Rattle.wrap_rows.specs.Wrapping.{bars}
use Rattle.wrap_rows.specs.Sum.{IsAt, ranges, vars, coefficient, sign_coefficient, carry_range, sign_ranges, carry_row, signed_row, signed_rows, signed_clauses, operands, literals, layout_of, layout, joined, exact, exact_signed, reduced, carry, is_poison, signs, numbers, CanTake, sum_of, meaning}
use Rattle.wrap_rows.proofs.CaseLaws.{by_test, Each, Some_of}
use Rattle.wrap_rows.proofs.BlockLaws.{each-said, all-true, Each-append, Each-left, Each-right, equals-said, equals-true}
use Rattle.wrap_rows.proofs.SignLaws.{sign-law, sign_of-IsMark}
use Rattle.wrap_rows.proofs.LinearLaws.{once, less_once}
use Rattle.wrap_rows.proofs.PutLaws.{put-before, put-first, put-second}
use Rattle.wrap_rows.proofs.PlaceLaws.{put-third, put-fourth, put-fifth}
use Rattle.wrap_rows.proofs.ReadLaws.{not_both, lt_said, mark_of-IsMark, reads_two}
use Rattle.wrap_rows.proofs.MarkedLaws.{two_said, two_filled}
use Rattle.wrap_rows.proofs.LayLaws.{three_more, two_and_two_more, lays_staged}
use Rattle.wrap_rows.proofs.SmallLaws.{power_small}
use Rattle.wrap_rows.proofs.WrapLaws.{number_of}
use Rattle.wrap_rows.proofs.WrappedLaws.{Wraps, modulo-wraps, bars-said, signed_by, lt_failed}

own : (nuw nsw : Bool) (sum : Sum) (first : ℕ) → names_own_rows (layout_of nuw nsw sum first) ≡ true
own true true sum first = refl
own true false sum first = refl
own false true sum first = refl
own false false sum first = refl

pub own_rows : (sum : Sum) (first : ℕ) → names_own_rows (layout sum first) ≡ true
own_rows sum first = own sum.flags.nuw sum.flags.nsw sum first

-- ---- the rows' sums

carry_sum : (kind : SumKind) (p : ℕ) (a b x q : ℤ)
    → pos 1 *ℤ a +ℤ (coefficient kind *ℤ b +ℤ (neg_ℤ (pos 1) *ℤ x +ℤ (neg_ℤ (pos p) *ℤ q +ℤ pos 0))) ≡ joined kind a b -ℤ (x +ℤ (pos p *ℤ q))
carry_sum Plus p a b x q = omega (arith, ints, once a, once b, less_once x, neg_ℤ-*ℤ (pos p) q)
carry_sum Minus p a b x q = omega (arith, ints, once a, less_once b, less_once x, neg_ℤ-*ℤ (pos p) q)

signed_sum : (kind : SumKind) (width : ℕ) (a b s t : ℤ)
    → pos 1 *ℤ a +ℤ (coefficient kind *ℤ b +ℤ (neg_ℤ (pos (2 ^ width)) *ℤ s +ℤ (sign_coefficient kind width *ℤ t +ℤ pos 0))) ≡ joined kind (a -ℤ (pos (2 ^ width) *ℤ s)) (b -ℤ (pos (2 ^ width) *ℤ t))
signed_sum Plus width a b s t = omega (arith, ints, once a, once b, neg_ℤ-*ℤ (pos (2 ^ width)) s, neg_ℤ-*ℤ (pos (2 ^ width)) t)
signed_sum Minus width a b s t = omega (arith, ints, once a, less_once b, neg_ℤ-*ℤ (pos (2 ^ width)) s)

-- the signed row's sum, where the signs are the operands'
signed_value : (sum : Sum) (point : List ℤ) (sign : ℕ) → IsWidth sum.width → CanTake sum point → number_at point sign ≡ sign_of sum.width (number_at point sum.a.number) → number_at point (sign + 1) ≡ sign_of sum.width (number_at point sum.b.number)
    → row_value (signed_row sum sign) point ≡ exact_signed sum point
signed_value sum point sign w takes is_a is_b =
    let a = number_at point sum.a.number in
    let b = number_at point sum.b.number in
    signed_sum sum.kind sum.width a b (number_at point sign) (number_at point (sign + 1))
    ∙ ap₂ (joined sum.kind) (sym (signed_by sum.width a (number_at point sign) w takes.a.number is_a)) (sym (signed_by sum.width b (number_at point (sign + 1)) w takes.b.number is_b))

-- ---- the signs

-- the signs are those of the operands
record AreSigns (sum : Sum) (first : ℕ) (point : List ℤ) : Type 0 where
  of_a : number_at point (first + 1 + 1 + 1) ≡ sign_of sum.width (number_at point sum.a.number)
  of_b : number_at point (first + 1 + 1 + 1 + 1) ≡ sign_of sum.width (number_at point sum.b.number)

module _ (sum : Sum) (first : ℕ) (point : List ℤ) (is_at : IsAt sum first) (takes : CanTake sum point) where
  abbrev rows_of : (nsw : Bool) → List (List Part)
  rows_of nsw = carry_row sum first ∷ signed_rows nsw sum (first + 1 + 1 + 1)

  abbrev Clauses_of : (nsw : Bool) → List (List Lit) → Type 0
  Clauses_of nsw clauses = Each (Some_of (IsTrueAt (rows_of nsw) point)) clauses

  signs_mean : (nsw : Bool) → (nsw ≡ true → AreSigns sum first point) → nsw ≡ true → term_value (rows_of nsw) point (Row 3) ≡ exact_signed sum point
  signs_mean true are set = signed_value sum point (first + 1 + 1 + 1) is_at.width takes (are set).of_a (are set).of_b
  signs_mean false are set = absurd (not_both false set refl)

  signs_said : (nsw : Bool) → AreIn (first + 1 + 1 + 1) (sign_ranges nsw) point → Clauses_of nsw (signed_clauses nsw sum.width 1 2) → nsw ≡ true → AreSigns sum first point
  signs_said true in_ranges each set = record {
    of_a = (sign-law (rows_of true) point 1 sum.width sum.a.number (first + 1 + 1 + 1) is_at.width refl takes.a.number in_ranges.0).0
        (all-true (IsTrueAt (rows_of true) point) (sign_clauses sum.width 1) (each.0, (each.1.0, tt)));
    of_b = (sign-law (rows_of true) point 2 sum.width sum.b.number (first + 1 + 1 + 1 + 1) is_at.width refl takes.b.number in_ranges.1.0).0
        (all-true (IsTrueAt (rows_of true) point) (sign_clauses sum.width 2) (each.1.1.0, (each.1.1.1.0, tt)));
  }
  signs_said false in_ranges each set = absurd (not_both false set refl)

  signs_in : (nsw : Bool) → (nsw ≡ true → AreSigns sum first point) → AreIn (first + 1 + 1 + 1) (sign_ranges nsw) point
  signs_in true are = (
    subst IsMark (sym (are refl).of_a) (sign_of-IsMark sum.width (number_at point sum.a.number)),
    (subst IsMark (sym (are refl).of_b) (sign_of-IsMark sum.width (number_at point sum.b.number)), tt),
  )
  signs_in false are = tt

  signs_true : (nsw : Bool) → (nsw ≡ true → AreSigns sum first point) → Clauses_of nsw (signed_clauses nsw sum.width 1 2)
  signs_true true are =
      let inside = signs_in true are in
      Each-append (Some_of (IsTrueAt (rows_of true) point)) (sign_clauses sum.width 1) (sign_clauses sum.width 2)
      (each-said (IsTrueAt (rows_of true) point) (sign_clauses sum.width 1)
      ((sign-law (rows_of true) point 1 sum.width sum.a.number (first + 1 + 1 + 1) is_at.width refl takes.a.number inside.0).1 (are refl).of_a))
      (each-said (IsTrueAt (rows_of true) point) (sign_clauses sum.width 2)
      ((sign-law (rows_of true) point 2 sum.width sum.b.number (first + 1 + 1 + 1 + 1) is_at.width refl takes.b.number inside.1.0).1 (are refl).of_b))
  signs_true false are = tt

-- ---- what it means

means : (kind : SumKind) (flags : Flags) (width : ℕ) (a b : ℤ) → pos (unsigned_abs a) ≡ a → pos (unsigned_abs b) ≡ b
    → sum_of kind flags width (unsigned_abs a) (unsigned_abs b) ≡ wrapped flags width (joined kind a b) (joined kind (signed width (unsigned_abs a)) (signed width (unsigned_abs b)))
means Plus flags width a b is_a is_b = ap₂ (λ u v. wrapped flags width (u +ℤ v) (signed width (unsigned_abs a) +ℤ signed width (unsigned_abs b))) is_a is_b
means Minus flags width a b is_a is_b = ap₂ (λ u v. wrapped flags width (u -ℤ v) (signed width (unsigned_abs a) -ℤ signed width (unsigned_abs b))) is_a is_b

pub sound : (sum : Sum) (first : ℕ) (point : List ℤ) → IsAt sum first → CanTake sum point → AreIn first (ranges sum) point → Holds (layout sum first) point → value_at (vars sum first) point ≡ meaning sum point
sound sum first point is_at takes in_ranges holds =
    let nsw = sum.flags.nsw in
    let rows = (layout sum first).rows in
    let a = number_at point sum.a.number in
    let b = number_at point sum.b.number in
    let x = number_at point first in
    let q = number_at point (first + 1 + 1) in
    let lits = literals sum.flags.nuw nsw sum first 3 in
    let barred = bars sum.flags sum.width (exact sum point) (exact_signed sum point) in
    let each = each-said (IsTrueAt rows point) (layout sum first).clauses holds in
    let equation : term_value rows point (Row 0) ≡ pos 0 = equals-said rows point 0 (pos 0) (each.0, (each.1.0, tt)) in
    let wraps : Wraps sum.width (exact sum point) x q = record {
      number = (in_ranges.0.0, omega (arith, ints, in_ranges.0.1, pow_pos sum.width));
      sum = omega (arith, ints, carry_sum sum.kind (2 ^ sum.width) a b x q, equation);
    } in
    let signs = Each-left (Some_of (IsTrueAt rows point)) (signed_clauses nsw sum.width 1 2) (marks (first + 1) (operands sum) lits) each.1.1 in
    let last = Each-right (Some_of (IsTrueAt rows point)) (signed_clauses nsw sum.width 1 2) (marks (first + 1) (operands sum) lits) each.1.1 in
    let exact_is = signs_mean sum first point is_at takes nsw (signs_said sum first point is_at takes nsw in_ranges.1.1.1 signs) in
    let lists = bars-said rows point sum.flags.nuw nsw sum.width (first + 1 + 1) 3 (exact sum point) (exact_signed sum point) x wraps exact_is in
    let marked = two_said rows point (first + 1) sum.a.mark sum.b.mark lits barred in_ranges.1.0 takes.a.mark takes.b.mark lists last in
    reads_two (sum_of sum.kind sum.flags sum.width) x a b (number_at point (first + 1)) (number_at point sum.a.mark) (number_at point sum.b.mark) barred marked
    (means sum.kind sum.flags sum.width a b (number_of a takes.a.number.0) (number_of b takes.b.number.0)
    ∙ ap (poison_if barred) (modulo-wraps sum.width (exact sum point) x q wraps))

-- ---- what is filled in

module _ (width : ℕ) (z : ℤ) where
  abbrev Reduced : (negative small : Bool) → Type 0
  Reduced negative small = Wraps width z (cond negative (z +ℤ pos (2 ^ width)) (cond small z (z -ℤ pos (2 ^ width)))) (cond negative (negsuc 0) (cond small (pos 0) (pos 1)))

  reduced_wraps : neg_ℤ (pos (2 ^ width)) ≤ℤ z → z <ℤ pos (2 ^ width + 2 ^ width) → Wraps width z (reduced width z) (carry width z)
  reduced_wraps low high =
      by_test (λ test. Reduced test (int_lt z (pos (2 ^ width)))) (int_lt z (pos 0))
      (λ passes.
      let below = lt_said z (pos 0) passes in
      record { number = (omega (arith, ints, low), omega (arith, ints, below)); sum = omega (arith, ints) })
      (λ fails. by_test (λ test. Reduced false test) (int_lt z (pos (2 ^ width)))
      (λ passes. record { number = (lt_failed z (pos 0) fails, lt_said z (pos (2 ^ width)) passes); sum = omega (arith, ints) })
      (λ large.
      let above = lt_failed z (pos (2 ^ width)) large in
      record { number = (omega (arith, ints, above), omega (arith, ints, high)); sum = omega (arith, ints) }))

  carry_plus : pos 0 ≤ℤ z → IsInRange (pos 0, pos 1) (carry width z)
  carry_plus above =
      by_test (λ test. IsInRange (pos 0, pos 1) (cond test (negsuc 0) (cond (int_lt z (pos (2 ^ width))) (pos 0) (pos 1)))) (int_lt z (pos 0))
      (λ passes. absurd (omega (arith, ints, lt_said z (pos 0) passes, above)))
      (λ fails. by_test (λ test. IsInRange (pos 0, pos 1) (cond test (pos 0) (pos 1))) (int_lt z (pos (2 ^ width)))
      (λ passes. (omega (arith, ints), omega (arith, ints)))
      (λ large. (omega (arith, ints), omega (arith, ints))))

  carry_minus : z <ℤ pos (2 ^ width) → IsInRange (negsuc 0, pos 0) (carry width z)
  carry_minus below =
      by_test (λ test. IsInRange (negsuc 0, pos 0) (cond test (negsuc 0) (cond (int_lt z (pos (2 ^ width))) (pos 0) (pos 1)))) (int_lt z (pos 0))
      (λ passes. (omega (arith, ints), omega (arith, ints)))
      (λ fails. by_test (λ test. IsInRange (negsuc 0, pos 0) (cond test (pos 0) (pos 1))) (int_lt z (pos (2 ^ width)))
      (λ passes. (omega (arith, ints), omega (arith, ints)))
      (λ large. absurd (omega (arith, ints, lt_failed z (pos (2 ^ width)) large, below))))

joined_wraps : (kind : SumKind) (width : ℕ) (a b : ℤ) → IsNumber width a → IsNumber width b → Wraps width (joined kind a b) (reduced width (joined kind a b)) (carry width (joined kind a b))
joined_wraps Plus width a b is_a is_b = reduced_wraps width (a +ℤ b) (omega (arith, ints, is_a.0, is_b.0)) (omega (arith, ints, is_a.1, is_b.1))
joined_wraps Minus width a b is_a is_b = reduced_wraps width (a -ℤ b) (omega (arith, ints, is_a.0, is_b.1)) (omega (arith, ints, is_a.1, is_b.0))

carry_in : (kind : SumKind) (width : ℕ) (a b : ℤ) → IsNumber width a → IsNumber width b → IsInRange (carry_range kind) (carry width (joined kind a b))
carry_in Plus width a b is_a is_b = carry_plus width (a +ℤ b) (omega (arith, ints, is_a.0, is_b.0))
carry_in Minus width a b is_a is_b = carry_minus width (a -ℤ b) (omega (arith, ints, is_a.1, is_b.0))

-- the piece's own variables have the numbers that the operands give
record IsFilled (sum : Sum) (first : ℕ) (point : List ℤ) : Type 0 where
  number_is : number_at point first ≡ reduced sum.width (exact sum point)
  mark_is : number_at point (first + 1) ≡ mark_of (is_poison sum point)
  carry_is : number_at point (first + 1 + 1) ≡ carry sum.width (exact sum point)
  signs_are : sum.flags.nsw ≡ true → AreSigns sum first point

filled : (sum : Sum) (first : ℕ) (point : List ℤ) → IsAt sum first → CanTake sum point → IsFilled sum first point → AreIn first (ranges sum) point × Holds (layout sum first) point
filled sum first point is_at takes is =
    let nsw = sum.flags.nsw in
    let rows = (layout sum first).rows in
    let a = number_at point sum.a.number in
    let b = number_at point sum.b.number in
    let x = number_at point first in
    let q = number_at point (first + 1 + 1) in
    let lits = literals sum.flags.nuw nsw sum first 3 in
    let barred = bars sum.flags sum.width (exact sum point) (exact_signed sum point) in
    let given = joined_wraps sum.kind sum.width a b takes.a.number takes.b.number in
    let wraps : Wraps sum.width (exact sum point) x q = record {
      number = subst (IsNumber sum.width) (sym is.number_is) given.number;
      sum = given.sum ∙ ap₂ (λ u v. u +ℤ (pos (2 ^ sum.width) *ℤ v)) (sym is.number_is) (sym is.carry_is);
    } in
    let equation : term_value rows point (Row 0) ≡ pos 0 = omega (arith, ints, carry_sum sum.kind (2 ^ sum.width) a b x q, wraps.sum) in
    let exact_is = signs_mean sum first point is_at takes nsw is.signs_are in
    let lists = bars-said rows point sum.flags.nuw nsw sum.width (first + 1 + 1) 3 (exact sum point) (exact_signed sum point) x wraps exact_is in
    let is_mark : IsMark (number_at point (first + 1)) = subst IsMark (sym is.mark_is) (mark_of-IsMark (is_poison sum point)) in
    let is_carry = subst (IsInRange (carry_range sum.kind)) (sym is.carry_is) (carry_in sum.kind sum.width a b takes.a.number takes.b.number) in (
      ((wraps.number.0, omega (arith, ints, wraps.number.1)), (is_mark, (is_carry, signs_in sum first point is_at takes nsw is.signs_are))),
      all-true (IsTrueAt rows point) (layout sum first).clauses
          (Each-append (Some_of (IsTrueAt rows point)) (equals 0 (pos 0)) (signed_clauses nsw sum.width 1 2 ++ marks (first + 1) (operands sum) lits)
          (equals-true rows point 0 (pos 0) equation)
          (Each-append (Some_of (IsTrueAt rows point)) (signed_clauses nsw sum.width 1 2) (marks (first + 1) (operands sum) lits)
          (signs_true sum first point is_at takes nsw is.signs_are)
          (two_filled rows point (first + 1) sum.a.mark sum.b.mark lits barred is.mark_is takes.a.mark takes.b.mark lists))),
    )

-- ---- the point that is filled in

signs_put : (nsw : Bool) (sum : Sum) (first : ℕ) (point : List ℤ) (x m q : ℤ) → first + (3 + length (sign_ranges nsw)) ≤ length point → nsw ≡ true
    → (number_at (put_from first (x ∷ m ∷ q ∷ signs nsw sum point) point) (first + 1 + 1 + 1) ≡ sign_of sum.width (number_at point sum.a.number)) × (number_at (put_from first (x ∷ m ∷ q ∷ signs nsw sum point) point) (first + 1 + 1 + 1 + 1) ≡ sign_of sum.width (number_at point sum.b.number))
signs_put true sum first point x m q within set =
    let s = sign_of sum.width (number_at point sum.a.number) in
    let t = sign_of sum.width (number_at point sum.b.number) in
    (put-fourth first x m q s (t ∷ []) point (omega (arith, within)), put-fifth first x m q s t [] point (omega (arith, within)))
signs_put false sum first point x m q within set = absurd (not_both false set refl)

pub complete : (sum : Sum) (first : ℕ) (point : List ℤ) → IsAt sum first → CanTake sum point → first + length (ranges sum) ≤ length point → AreIn first (ranges sum) (put_from first (numbers sum point) point) × Holds (layout sum first) (put_from first (numbers sum point) point)
complete sum first point is_at takes within =
    let new = put_from first (numbers sum point) point in
    let x = reduced sum.width (exact sum point) in
    let m = mark_of (is_poison sum point) in
    let q = carry sum.width (exact sum point) in
    let rest = signs sum.flags.nsw sum point in
    let a : number_at new sum.a.number ≡ number_at point sum.a.number = put-before first (numbers sum point) point sum.a.number is_at.a in
    let b : number_at new sum.b.number ≡ number_at point sum.b.number = put-before first (numbers sum point) point sum.b.number is_at.b in
    let ma : number_at new sum.a.mark ≡ number_at point sum.a.mark = put-before first (numbers sum point) point sum.a.mark is_at.a_mark in
    let mb : number_at new sum.b.mark ≡ number_at point sum.b.mark = put-before first (numbers sum point) point sum.b.mark is_at.b_mark in
    let same_exact : exact sum new ≡ exact sum point = ap₂ (joined sum.kind) a b in
    let same_signed : exact_signed sum new ≡ exact_signed sum point = ap₂ (λ u v. joined sum.kind (signed sum.width (unsigned_abs u)) (signed sum.width (unsigned_abs v))) a b in
    let same_poison : is_poison sum new ≡ is_poison sum point =
    ap₂ (λ u v. int_eq u (pos 1) || (int_eq v (pos 1) || bars sum.flags sum.width (exact sum new) (exact_signed sum new))) ma mb
    ∙ ap₂ (λ e t. is_marked sum.a point || (is_marked sum.b point || bars sum.flags sum.width e t)) same_exact same_signed in
    let new_takes : CanTake sum new = record {
      a = record { number = subst (IsNumber sum.width) (sym a) takes.a.number; mark = subst IsMark (sym ma) takes.a.mark };
      b = record { number = subst (IsNumber sum.width) (sym b) takes.b.number; mark = subst IsMark (sym mb) takes.b.mark };
    } in
    filled sum first new is_at new_takes (record {
      number_is = put-first first x (m ∷ q ∷ rest) point (omega (arith, within)) ∙ ap (reduced sum.width) (sym same_exact);
      mark_is = put-second first x m (q ∷ rest) point (omega (arith, within)) ∙ ap mark_of (sym same_poison);
      carry_is = put-third first x m q rest point (omega (arith, within)) ∙ ap (carry sum.width) (sym same_exact);
      signs_are = λ set.
          let put = signs_put sum.flags.nsw sum first point x m q (omega (arith, within)) set in
          record { of_a = put.0 ∙ ap (sign_of sum.width) (sym a); of_b = put.1 ∙ ap (sign_of sum.width) (sym b) };
    })

-- ---- what is laid

pub lays_signed : (sum : Sum) (sign : ℕ) (nsw : Bool) (old one two new : System) (parts : List Part) → nsw ≡ true
    → one ≡ record old { rows = old.rows ++ row_of (sign_row sum.width sum.a.number sign) ∷ []; clauses = old.clauses ++ map clause_of (sign_clauses sum.width (length old.rows)) }
    → two ≡ record one { rows = one.rows ++ row_of (sign_row sum.width sum.b.number (sign + 1)) ∷ []; clauses = one.clauses ++ map clause_of (sign_clauses sum.width (length one.rows)) }
    → new ≡ record two { rows = two.rows ++ row_of parts ∷ [] } → parts ≡ signed_row sum sign
    → new ≡ record old { rows = old.rows ++ map row_of (signed_rows nsw sum sign); clauses = old.clauses ++ map clause_of (signed_clauses nsw sum.width (length old.rows) (length old.rows + 1)) }
lays_signed sum sign true old one two new parts set first second third is =
    let width = sum.width in
    let a = row_of (sign_row width sum.a.number sign) in
    let b = row_of (sign_row width sum.b.number (sign + 1)) in
    let more : length (old.rows ++ a ∷ []) ≡ length old.rows + 1 = length-append old.rows (a ∷ []) in
    third
    ∙ ap {A = System} (λ s. record s { rows = s.rows ++ row_of parts ∷ [] }) (second ∙ ap {A = System} (λ s. record s { rows = s.rows ++ b ∷ []; clauses = s.clauses ++ map clause_of (sign_clauses width (length s.rows)) }) first)
    ∙ ap₂ (λ rows clauses. record { ranges = old.ranges; rows = rows; clauses = clauses })
    (three_more old.rows a b (row_of parts) ∙ ap {A = List Part} (λ p. old.rows ++ a ∷ b ∷ row_of p ∷ []) is)
    (ap (λ r. (old.clauses ++ map clause_of (sign_clauses width (length old.rows))) ++ map clause_of (sign_clauses width r)) more ∙ two_and_two_more old.clauses _ _ _ _)
lays_signed sum sign false old one two new parts set first second third is = absurd (not_both false set refl)

raised : (nuw nsw : Bool) (sum : Sum) (first r : ℕ)
    → map clause_of (equals r (pos 0)) ++ (map clause_of (signed_clauses nsw sum.width (r + 1) (r + 2)) ++ map clause_of (marks (first + 1) (operands sum) (literals nuw nsw sum first (r + 3)))) ≡ map (clause_from r) (layout_of nuw nsw sum first).clauses
raised true true sum first r = refl
raised true false sum first r = refl
raised false true sum first r = refl
raised false false sum first r = refl

pub lays : (sum : Sum) (first : ℕ) (old one two new : System)
    → one ≡ record old { rows = old.rows ++ row_of (carry_row sum first) ∷ []; clauses = old.clauses ++ map clause_of (equals (length old.rows) (pos 0)) }
    → two ≡ record one { rows = one.rows ++ map row_of (signed_rows sum.flags.nsw sum (first + 1 + 1 + 1)); clauses = one.clauses ++ map clause_of (signed_clauses sum.flags.nsw sum.width (length one.rows) (length one.rows + 1)) }
    → new ≡ record two { clauses = two.clauses ++ map clause_of (marks (first + 1) (operands sum) (literals sum.flags.nuw sum.flags.nsw sum first (length old.rows + 3))) } → Lays (layout sum first) old new
lays sum first old one two new carried says third =
    let nuw = sum.flags.nuw in
    let nsw = sum.flags.nsw in
    let r = length old.rows in
    let marked = marks (first + 1) (operands sum) (literals nuw nsw sum first (r + 3)) in
    let next : r + 1 + 1 ≡ r + 2 = omega arith in
    lays_staged (carry_row sum first) (signed_rows nsw sum (first + 1 + 1 + 1)) (λ row. signed_clauses nsw sum.width row (row + 1)) marked old one two new carried says third
    ∙ ap (λ k. let s : System = record { ranges = old.ranges; rows = old.rows ++ map row_of (layout sum first).rows; clauses = old.clauses ++ (map clause_of (equals r (pos 0)) ++ (map clause_of (signed_clauses nsw sum.width (r + 1) k) ++ map clause_of marked)) } in s) next
    ∙ ap (λ clauses. let s : System = record { ranges = old.ranges; rows = old.rows ++ map row_of (layout sum first).rows; clauses = old.clauses ++ clauses } in s) (raised nuw nsw sum first r)

-- ---- what is asked where it is laid

pub signed_count : (sum : Sum) (sign : ℕ) (nsw : Bool) → nsw ≡ true → length (signed_rows nsw sum sign) ≡ 3
signed_count sum sign true set = refl
signed_count sum sign false set = absurd (not_both false set refl)

clauses_counted : (nuw nsw : Bool) (sum : Sum) (first row : ℕ)
    → length (layout_of nuw nsw sum first).clauses ≡ 2 + (length (signed_clauses nsw sum.width 0 0) + (length (literals nuw nsw sum first row) + 3))
clauses_counted true true sum first row = refl
clauses_counted true false sum first row = refl
clauses_counted false true sum first row = refl
clauses_counted false false sum first row = refl

pub clause_count : (sum : Sum) (first row : ℕ) → length (layout sum first).clauses ≡ 2 + (length (signed_clauses sum.flags.nsw sum.width 0 0) + (length (literals sum.flags.nuw sum.flags.nsw sum first row) + 3))
clause_count sum first row = clauses_counted sum.flags.nuw sum.flags.nsw sum first row

-- the numbers are written one by one
pub puts_all : (nsw : Bool) (sum : Sum) (first : ℕ) (point : List ℤ) (x m q s t : ℤ) → nsw ≡ true → s ≡ sign_of sum.width (number_at point sum.a.number) → t ≡ sign_of sum.width (number_at point sum.b.number)
    → slice_set (slice_set (slice_set (slice_set (slice_set point first x) (first + 1) m) (first + 1 + 1) q) (first + 1 + 1 + 1) s) (first + 1 + 1 + 1 + 1) t ≡ put_from first (x ∷ m ∷ q ∷ signs nsw sum point) point
puts_all true sum first point x m q s t set is_s is_t = ap₂ (λ u v. put_from first (x ∷ m ∷ q ∷ u ∷ v ∷ []) point) is_s is_t
puts_all false sum first point x m q s t set is_s is_t = absurd (not_both false set refl)

pub puts_three : (nsw : Bool) (sum : Sum) (first : ℕ) (point : List ℤ) (x m q : ℤ) → nsw ≡ false
    → slice_set (slice_set (slice_set point first x) (first + 1) m) (first + 1 + 1) q ≡ put_from first (x ∷ m ∷ q ∷ signs nsw sum point) point
puts_three true sum first point x m q clear = absurd (not_both true refl clear)
puts_three false sum first point x m q clear = refl

-- ---- what is asked on the way

module _ (sum : Sum) (first : ℕ) (old one two : System) where
  -- the row of the carry stands
  abbrev pub HasCarry : Type 0
  HasCarry = one ≡ record old { rows = old.rows ++ row_of (carry_row sum first) ∷ []; clauses = old.clauses ++ map clause_of (equals (length old.rows) (pos 0)) }

  -- and then the signs
  abbrev pub HasSigns : Type 0
  HasSigns = two ≡ record one { rows = one.rows ++ map row_of (signed_rows sum.flags.nsw sum (first + 1 + 1 + 1)); clauses = one.clauses ++ map clause_of (signed_clauses sum.flags.nsw sum.width (length one.rows) (length one.rows + 1)) }

  pub same_ranges : HasCarry → HasSigns → length two.ranges ≡ length old.ranges
  same_ranges carried says = ap {A = System} (λ s. length s.ranges) says ∙ ap {A = System} (λ s. length s.ranges) carried

  pub one_row : HasCarry → length one.rows ≡ length old.rows + 1
  one_row carried = ap {A = System} (λ s. length s.rows) carried ∙ length-append old.rows (row_of (carry_row sum first) ∷ [])

  pub two_clauses : HasCarry → length one.clauses ≡ length old.clauses + 2
  two_clauses carried = ap {A = System} (λ s. length s.clauses) carried ∙ length-append old.clauses (map clause_of (equals (length old.rows) (pos 0)))

  pub signed_row_stands : HasCarry → HasSigns → sum.flags.nsw ≡ true → length old.rows + 3 < length two.rows
  signed_row_stands carried says set =
      let more = signed_rows sum.flags.nsw sum (first + 1 + 1 + 1) in
      let all : length two.rows ≡ length one.rows + length (map row_of more) = ap {A = System} (λ s. length s.rows) says ∙ length-append one.rows (map row_of more) in
      omega (arith, all, one_row carried, length-map more row_of, signed_count sum (first + 1 + 1 + 1) sum.flags.nsw set)

  sign_clause_count : (nsw : Bool) (row next : ℕ) → length (map clause_of (signed_clauses nsw sum.width row next)) ≡ length (signed_clauses nsw sum.width 0 0)
  sign_clause_count true row next = refl
  sign_clause_count false row next = refl

  pub clauses_so_far : HasCarry → HasSigns → length two.clauses ≡ length old.clauses + 2 + length (signed_clauses sum.flags.nsw sum.width 0 0)
  clauses_so_far carried says =
      let more = map clause_of (signed_clauses sum.flags.nsw sum.width (length one.rows) (length one.rows + 1)) in
      let all : length two.clauses ≡ length one.clauses + length more = ap {A = System} (λ s. length s.clauses) says ∙ length-append one.clauses more in
      omega (arith, all, two_clauses carried, sign_clause_count sum.flags.nsw (length one.rows) (length one.rows + 1))

-- the sizes of the coefficients
pub coefficient_small : (kind : SumKind) → unsigned_abs (coefficient kind) ≤ 1
coefficient_small Plus = omega arith
coefficient_small Minus = omega arith

pub sign_coefficient_small : (kind : SumKind) (width : ℕ) → IsWidth width → unsigned_abs (sign_coefficient kind width) ≤ 2 ^ 32
sign_coefficient_small Plus width w = omega (arith, ints, power_small width w.greatest)
sign_coefficient_small Minus width w = power_small width w.greatest
