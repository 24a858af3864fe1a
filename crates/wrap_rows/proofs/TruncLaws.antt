-- The laws of a truncation's piece.
use Rattle.std.proofs.Common.{◌≡◌, ℕ, ◌+◌, ◌-◌, ◌*◌, ◌/◌, ◌%◌, ◌^◌, ◌<◌, ◌≤◌, Bool, true, false, ◌&&◌, ◌||◌, ℤ, pos, neg_ℤ, ◌+ℤ◌, ◌-ℤ◌, ◌*ℤ◌, ◌≤ℤ◌, ◌⊎◌, List, [], ◌∷◌, ◌++◌, length, map, append_assoc, length-append, slice_set, refl, sym, ap, ap₂, ◌∙◌, inl, inr, subst, arith}
use Rattle.std.specs.Prelude.{◌↔◌, unsigned_abs, All}
use Rattle.std.specs.Ordering.{int_eq}
use Rattle.std.proofs.lemmas.Int.{ints}
use Rattle.std.proofs.lemmas.Nat.{pow_pos, pow-add, div-add-mod', mod_below, div_below}
use Rattle.mix_system.specs.declared.literal.Lit.{Lit}
use Rattle.mix_system.specs.declared.literal.Term.TheVariants.{Var, Row}
use Rattle.mix_system.specs.declared.row.Part.{Part}
use Rattle.mix_system.specs.Fits.{IsTrueAt, IsInRange, term_value}
use Rattle.mix_system.specs.Row.{number_at}
use Rattle.mix_system.specs.System.{System, IsInner, Exists}
use Rattle.mix_system.specs.Lit.{negation}
use Rattle.mix_system.proofs.ProductLaws.{neg_ℤ-*ℤ}
use Rattle.ir_meaning.specs.Whole.{IsWidth, signed}
use Rattle.ir_meaning.specs.Value.{poison_if}
use Rattle.ir_meaning.specs.Rows.{wrapped, trunc_of}
use Rattle.wrap_rows.specs.declared.trunc.Trunc.{Trunc}
use Rattle.wrap_rows.specs.Normal.{row_of, clause_of}
use Rattle.wrap_rows.specs.Layout.{Holds, clause_from, at_most, at_least}
use Rattle.wrap_rows.specs.Blocks.{equals, marks, sign_row, sign_clauses, sign_of}
use Rattle.wrap_rows.specs.Vars.{IsMark, IsNumber, is_marked, value_at}
use Rattle.wrap_rows.specs.Piece.{Lays, put_from, AreIn, names_own_rows, mark_of}
use Rattle.wrap_rows.specs.Wrapping.{exceeding, listed, bars}
use Rattle.wrap_rows.specs.Trunc.{IsAt, vars, carry_var, helpers, ranges, carry_row, signed_row, literals, plain_layout, signed_layout, layout_of, layout, number, carry, barred, helper_numbers, numbers, CanTake, meaning}
use Rattle.wrap_rows.proofs.CaseLaws.{Each, Some_of, All-from_Each}
use Rattle.wrap_rows.proofs.BlockLaws.{each-said, all-true, Each-append, equals-said, equals-true}
use Rattle.wrap_rows.proofs.SignLaws.{sign-law, sign_of-IsMark}
use Rattle.wrap_rows.proofs.LinearLaws.{once, less_once}
use Rattle.wrap_rows.proofs.PutLaws.{put-before, put-first, put-second}
use Rattle.wrap_rows.proofs.PlaceLaws.{put-third, put-fourth}
use Rattle.wrap_rows.proofs.ReadLaws.{not_both, mark_of-IsMark, reads_one}
use Rattle.wrap_rows.proofs.MarkedLaws.{one_said, one_filled}
use Rattle.wrap_rows.proofs.LayLaws.{three_more}
use Rattle.wrap_rows.proofs.WrapLaws.{number_of}
use Rattle.wrap_rows.proofs.WrappedLaws.{Wraps, modulo-wraps, leaves, leaving-said, exceeds, exceeding-said, listed-said, signed_by, each-listed, exceeding-inner, exceeding-opposite}

own : (nuw nsw : Bool) (trunc : Trunc) (first : ℕ) → names_own_rows (layout_of nuw nsw trunc first) ≡ true
own true true trunc first = refl
own true false trunc first = refl
own false true trunc first = refl
own false false trunc first = refl

pub own_rows : (trunc : Trunc) (first : ℕ) → names_own_rows (layout trunc first) ≡ true
own_rows trunc first = own trunc.flags.nuw trunc.flags.nsw trunc first

-- ---- the rows' sums

carry_sum : (p : ℕ) (a x q : ℤ) → pos 1 *ℤ a +ℤ (neg_ℤ (pos p) *ℤ q +ℤ (neg_ℤ (pos 1) *ℤ x +ℤ pos 0)) ≡ a -ℤ (x +ℤ (pos p *ℤ q))
carry_sum p a x q = omega (arith, ints, once a, less_once x, neg_ℤ-*ℤ (pos p) q)

signed_sum : (p : ℕ) (a s : ℤ) → pos 1 *ℤ a +ℤ (neg_ℤ (pos p) *ℤ s +ℤ pos 0) ≡ a -ℤ (pos p *ℤ s)
signed_sum p a s = omega (arith, ints, once a, neg_ℤ-*ℤ (pos p) s)

-- a carry of 0 or more isn't 0 exactly where the operand leaves the numbers of the width
above_said : (width : ℕ) (z x q : ℤ) → Wraps width z x q → pos 0 ≤ℤ q → ((pos 1 ≤ℤ q) ⊎ ⊥) ↔ leaves width z ≡ true
above_said width z x q wraps above =
    let says = leaving-said width z x q wraps in (
      λ some. says.0 (elim some [ inl here ↦ inl here | inr none ↦ elim none [ ] ]),
      λ passes. elim (says.1 passes) [
        | inl here ↦ inl here
        | inr rest ↦ elim rest [ inl below ↦ absurd (omega (arith, ints, below, above)) | inr none ↦ elim none [ ] ]
      ],
    )

module _ (trunc : Trunc) (first : ℕ) (point : List ℤ) (is_at : IsAt trunc first) (takes : CanTake trunc point) where
  abbrev a_here : ℤ
  a_here = number_at point trunc.a.number

  abbrev rows_of : (nuw nsw : Bool) → List (List Part)
  rows_of nuw nsw = (layout_of nuw nsw trunc first).rows

  -- what the piece's variables are
  record Says (nuw nsw : Bool) : Type 0 where
    wraps : Wraps trunc.to a_here (number_at point first) (number_at point (carry_var nsw first))
    above : pos 0 ≤ℤ number_at point (carry_var nsw first)
    reads : nsw ≡ true → term_value (rows_of nuw nsw) point (Row 2) ≡ signed trunc.from (unsigned_abs a_here)

  signed_reads : (sign : ℕ) → number_at point sign ≡ sign_of trunc.from a_here → pos 1 *ℤ a_here +ℤ (neg_ℤ (pos (2 ^ trunc.from)) *ℤ number_at point sign +ℤ pos 0) ≡ signed trunc.from (unsigned_abs a_here)
  signed_reads sign is =
      signed_sum (2 ^ trunc.from) a_here (number_at point sign) ∙ sym (signed_by trunc.from a_here (number_at point sign) is_at.from takes.number is)

  bars_said : (nuw nsw : Bool) → Says nuw nsw
      → (Some_of (IsTrueAt (rows_of nuw nsw) point) (literals nuw nsw trunc (carry_var nsw first) 2) ↔ ((nuw && leaves trunc.to a_here) || (nsw && exceeds trunc.to (signed trunc.from (unsigned_abs a_here)))) ≡ true)
  bars_said nuw nsw says =
      let rows = rows_of nuw nsw in
      let q = number_at point (carry_var nsw first) in
      let exact_signed = signed trunc.from (unsigned_abs a_here) in
      listed-said (IsTrueAt rows point) nuw nsw (leaves trunc.to a_here) (exceeds trunc.to exact_signed) (at_least (Var (carry_var nsw first)) (pos 1) ∷ []) (exceeding trunc.to 2)
      (λ set. above_said trunc.to a_here (number_at point first) q says.wraps says.above)
      (λ set. exceeding-said trunc.to (term_value rows point (Row 2)) exact_signed (says.reads set))

  abbrev Clauses : (nuw nsw : Bool) → Type 0
  Clauses nuw nsw = Each (Some_of (IsTrueAt (rows_of nuw nsw) point)) (layout_of nuw nsw trunc first).clauses

  abbrev Marked : (nuw nsw : Bool) → Type 0
  Marked nuw nsw = Each (Some_of (IsTrueAt (rows_of nuw nsw) point)) (marks (first + 1) (trunc.a.mark ∷ []) (literals nuw nsw trunc (carry_var nsw first) 2))

  abbrev Inside : (nsw : Bool) → Type 0
  Inside nsw = AreIn first ((pos 0, pos (2 ^ trunc.to - 1)) ∷ (pos 0, pos 1) ∷ helpers nsw trunc) point

  is_number : IsInRange (pos 0, pos (2 ^ trunc.to - 1)) (number_at point first) → IsNumber trunc.to (number_at point first)
  is_number is = (is.0, omega (arith, ints, is.1, pow_pos trunc.to))

  wraps_by : (q : ℤ) → IsInRange (pos 0, pos (2 ^ trunc.to - 1)) (number_at point first) → pos 1 *ℤ a_here +ℤ (neg_ℤ (pos (2 ^ trunc.to)) *ℤ q +ℤ (neg_ℤ (pos 1) *ℤ number_at point first +ℤ pos 0)) ≡ pos 0
      → Wraps trunc.to a_here (number_at point first) q
  wraps_by q is sum = record { number = is_number is; sum = omega (arith, ints, sum, carry_sum (2 ^ trunc.to) a_here (number_at point first) q) }

  said : (nuw nsw : Bool) → Inside nsw → Clauses nuw nsw → Says nuw nsw × Marked nuw nsw
  said nuw true inside each =
      let rows = rows_of nuw true in
      let sign = (sign-law rows point 0 trunc.from trunc.a.number (first + 1 + 1) is_at.from refl takes.number inside.1.1.0).0 (all-true (IsTrueAt rows point) (sign_clauses trunc.from 0) (each.0, (each.1.0, tt))) in
      let sum : term_value rows point (Row 1) ≡ pos 0 = equals-said rows point 1 (pos 0) (each.1.1.0, (each.1.1.1.0, tt)) in (
        record {
          wraps = wraps_by (number_at point (first + 1 + 1 + 1)) inside.0 sum;
          above = inside.1.1.1.0.0;
          reads = λ set. signed_reads (first + 1 + 1) sign;
        },
        each.1.1.1.1,
      )
  said nuw false inside each =
      let rows = rows_of nuw false in
      let sum : term_value rows point (Row 0) ≡ pos 0 = equals-said rows point 0 (pos 0) (each.0, (each.1.0, tt)) in (
        record {
          wraps = wraps_by (number_at point (first + 1 + 1)) inside.0 sum;
          above = inside.1.1.0.0;
          reads = λ set. absurd (not_both false set refl);
        },
        each.1.1,
      )

  -- ---- what is filled in

  record IsFilled (nuw nsw : Bool) : Type 0 where
    number_is : number_at point first ≡ number trunc point
    mark_is : number_at point (first + 1) ≡ mark_of (int_eq (number_at point trunc.a.mark) (pos 1) || ((nuw && leaves trunc.to a_here) || (nsw && exceeds trunc.to (signed trunc.from (unsigned_abs a_here)))))
    carry_is : number_at point (carry_var nsw first) ≡ carry trunc point
    sign_is : nsw ≡ true → number_at point (first + 1 + 1) ≡ sign_of trunc.from a_here

  given : Wraps trunc.to a_here (number trunc point) (carry trunc point)
  given =
      let n = unsigned_abs a_here in
      let whole = number_of a_here takes.number.0 in
      record {
        number = (omega (arith, ints), omega (arith, ints, mod_below n (2 ^ trunc.to) (pow_pos trunc.to)));
        sum = omega (arith, ints, whole, div-add-mod' n (2 ^ trunc.to));
      }

  carry_in : IsInRange (pos 0, pos (2 ^ (trunc.from - trunc.to) - 1)) (carry trunc point)
  carry_in =
      let n = unsigned_abs a_here in
      let split : 2 ^ trunc.from ≡ 2 ^ (trunc.from - trunc.to) * 2 ^ trunc.to = ap (λ k. 2 ^ k) (omega (arith, is_at.narrower)) ∙ pow-add 2 (trunc.from - trunc.to) trunc.to in
      let below : n < 2 ^ (trunc.from - trunc.to) * 2 ^ trunc.to = subst (λ p. n < p) split (omega (arith, ints, takes.number.1, number_of a_here takes.number.0)) in
      (omega (arith, ints), omega (arith, ints, div_below n (2 ^ trunc.to) (2 ^ (trunc.from - trunc.to)) (pow_pos trunc.to) below))

  filled_wraps : (nuw nsw : Bool) → IsFilled nuw nsw → Wraps trunc.to a_here (number_at point first) (number_at point (carry_var nsw first))
  filled_wraps nuw nsw is = record {
    number = subst (IsNumber trunc.to) (sym is.number_is) given.number;
    sum = given.sum ∙ ap₂ (λ u v. u +ℤ (pos (2 ^ trunc.to) *ℤ v)) (sym is.number_is) (sym is.carry_is);
  }

  filled_sum : (nuw nsw : Bool) → IsFilled nuw nsw → pos 1 *ℤ a_here +ℤ (neg_ℤ (pos (2 ^ trunc.to)) *ℤ number_at point (carry_var nsw first) +ℤ (neg_ℤ (pos 1) *ℤ number_at point first +ℤ pos 0)) ≡ pos 0
  filled_sum nuw nsw is =
      omega (arith, ints, carry_sum (2 ^ trunc.to) a_here (number_at point first) (number_at point (carry_var nsw first)), (filled_wraps nuw nsw is).sum)

  filled_says : (nuw nsw : Bool) → IsFilled nuw nsw → (nsw ≡ true → term_value (rows_of nuw nsw) point (Row 2) ≡ signed trunc.from (unsigned_abs a_here)) → Says nuw nsw
  filled_says nuw nsw is reads = record {
    wraps = filled_wraps nuw nsw is;
    above = subst (λ z. pos 0 ≤ℤ z) (sym is.carry_is) carry_in.0;
    reads = reads;
  }

  marked_by : (nuw nsw : Bool) → IsFilled nuw nsw → Says nuw nsw → Marked nuw nsw
  marked_by nuw nsw is says =
      one_filled (rows_of nuw nsw) point (first + 1) trunc.a.mark (literals nuw nsw trunc (carry_var nsw first) 2) ((nuw && leaves trunc.to a_here) || (nsw && exceeds trunc.to (signed trunc.from (unsigned_abs a_here)))) is.mark_is takes.mark
      (bars_said nuw nsw says)

  filled : (nuw nsw : Bool) → IsFilled nuw nsw → Inside nsw × Clauses nuw nsw
  filled nuw true is =
      let rows = rows_of nuw true in
      let wraps = filled_wraps nuw true is in
      let is_mark : IsMark (number_at point (first + 1)) = subst IsMark (sym is.mark_is) (mark_of-IsMark _) in
      let is_sign : IsMark (number_at point (first + 1 + 1)) = subst IsMark (sym (is.sign_is refl)) (sign_of-IsMark trunc.from a_here) in
      let is_carry = subst (IsInRange (pos 0, pos (2 ^ (trunc.from - trunc.to) - 1))) (sym is.carry_is) carry_in in
      let says = filled_says nuw true is (λ set. signed_reads (first + 1 + 1) (is.sign_is refl)) in (
        ((wraps.number.0, omega (arith, ints, wraps.number.1)), (is_mark, (is_sign, (is_carry, tt)))),
        Each-append (Some_of (IsTrueAt rows point)) (sign_clauses trunc.from 0) (equals 1 (pos 0) ++ marks (first + 1) (trunc.a.mark ∷ []) (literals nuw true trunc (first + 1 + 1 + 1) 2))
            (each-said (IsTrueAt rows point) (sign_clauses trunc.from 0) ((sign-law rows point 0 trunc.from trunc.a.number (first + 1 + 1) is_at.from refl takes.number is_sign).1 (is.sign_is refl)))
            (Each-append (Some_of (IsTrueAt rows point)) (equals 1 (pos 0)) (marks (first + 1) (trunc.a.mark ∷ []) (literals nuw true trunc (first + 1 + 1 + 1) 2))
            (equals-true rows point 1 (pos 0) (filled_sum nuw true is))
            (marked_by nuw true is says)),
      )
  filled nuw false is =
      let rows = rows_of nuw false in
      let wraps = filled_wraps nuw false is in
      let is_mark : IsMark (number_at point (first + 1)) = subst IsMark (sym is.mark_is) (mark_of-IsMark _) in
      let is_carry = subst (IsInRange (pos 0, pos (2 ^ (trunc.from - trunc.to) - 1))) (sym is.carry_is) carry_in in
      let says = filled_says nuw false is (λ set. absurd (not_both false set refl)) in (
        ((wraps.number.0, omega (arith, ints, wraps.number.1)), (is_mark, (is_carry, tt))),
        Each-append (Some_of (IsTrueAt rows point)) (equals 0 (pos 0)) (marks (first + 1) (trunc.a.mark ∷ []) (literals nuw false trunc (first + 1 + 1) 2))
            (equals-true rows point 0 (pos 0) (filled_sum nuw false is))
            (marked_by nuw false is says),
      )

pub sound : (trunc : Trunc) (first : ℕ) (point : List ℤ) → IsAt trunc first → CanTake trunc point → AreIn first (ranges trunc) point → Holds (layout trunc first) point → value_at (vars trunc first) point ≡ meaning trunc point
sound trunc first point is_at takes in_ranges holds =
    let nuw = trunc.flags.nuw in
    let nsw = trunc.flags.nsw in
    let rows = (layout trunc first).rows in
    let a = number_at point trunc.a.number in
    let x = number_at point first in
    let bad = barred trunc point in
    let both = said trunc first point is_at takes nuw nsw in_ranges (each-said (IsTrueAt rows point) (layout trunc first).clauses holds) in
    let lists = bars_said trunc first point is_at takes nuw nsw both.0 in
    let marked = one_said rows point (first + 1) trunc.a.mark (literals nuw nsw trunc (carry_var nsw first) 2) bad in_ranges.1.0 takes.mark lists both.1 in
    reads_one (trunc_of trunc.flags trunc.from trunc.to) x a (number_at point (first + 1)) (number_at point trunc.a.mark) bad marked
    (ap (λ z. wrapped trunc.flags trunc.to z (signed trunc.from (unsigned_abs a))) (number_of a takes.number.0)
    ∙ ap (poison_if bad) (modulo-wraps trunc.to a x (number_at point (carry_var nsw first)) both.0.wraps))

-- ---- the point that is filled in

carry_put : (nsw : Bool) (trunc : Trunc) (first : ℕ) (point : List ℤ) (x m : ℤ) → first + (2 + length (helpers nsw trunc)) ≤ length point
    → number_at (put_from first (x ∷ m ∷ helper_numbers nsw trunc point) point) (carry_var nsw first) ≡ carry trunc point
carry_put true trunc first point x m within =
    put-fourth first x m (sign_of trunc.from (number_at point trunc.a.number)) (carry trunc point) [] point (omega (arith, within))
carry_put false trunc first point x m within = put-third first x m (carry trunc point) [] point (omega (arith, within))

sign_put : (nsw : Bool) (trunc : Trunc) (first : ℕ) (point : List ℤ) (x m : ℤ) → first + (2 + length (helpers nsw trunc)) ≤ length point → nsw ≡ true
    → number_at (put_from first (x ∷ m ∷ helper_numbers nsw trunc point) point) (first + 1 + 1) ≡ sign_of trunc.from (number_at point trunc.a.number)
sign_put true trunc first point x m within set =
    put-third first x m (sign_of trunc.from (number_at point trunc.a.number)) (carry trunc point ∷ []) point (omega (arith, within))
sign_put false trunc first point x m within set = absurd (not_both false set refl)

some_room : (nsw : Bool) (trunc : Trunc) → 1 ≤ length (helpers nsw trunc)
some_room true trunc = omega arith
some_room false trunc = omega arith

pub complete : (trunc : Trunc) (first : ℕ) (point : List ℤ) → IsAt trunc first → CanTake trunc point → first + length (ranges trunc) ≤ length point → AreIn first (ranges trunc) (put_from first (numbers trunc point) point) × Holds (layout trunc first) (put_from first (numbers trunc point) point)
complete trunc first point is_at takes within =
    let nuw = trunc.flags.nuw in
    let nsw = trunc.flags.nsw in
    let new = put_from first (numbers trunc point) point in
    let x = number trunc point in
    let m = mark_of (is_marked trunc.a point || barred trunc point) in
    let rest = helper_numbers nsw trunc point in
    let enough = some_room nsw trunc in
    let a : number_at new trunc.a.number ≡ number_at point trunc.a.number = put-before first (numbers trunc point) point trunc.a.number is_at.number in
    let ma : number_at new trunc.a.mark ≡ number_at point trunc.a.mark = put-before first (numbers trunc point) point trunc.a.mark is_at.mark in
    let new_takes : CanTake trunc new = record { number = subst (IsNumber trunc.from) (sym a) takes.number; mark = subst IsMark (sym ma) takes.mark } in
    let both = filled trunc first new is_at new_takes nuw nsw (record {
      number_is = put-first first x (m ∷ rest) point (omega (arith, within)) ∙ ap (λ z. pos (unsigned_abs z % 2 ^ trunc.to)) (sym a);
      mark_is = put-second first x m rest point (omega (arith, within)) ∙ ap₂ (λ u z. mark_of (int_eq u (pos 1) || bars trunc.flags trunc.to z (signed trunc.from (unsigned_abs z)))) (sym ma) (sym a);
      carry_is = carry_put nsw trunc first point x m (omega (arith, within)) ∙ ap (λ z. pos (unsigned_abs z / 2 ^ trunc.to)) (sym a);
      sign_is = λ set. sign_put nsw trunc first point x m (omega (arith, within)) set ∙ ap (sign_of trunc.from) (sym a);
    }) in
    (both.0, all-true (IsTrueAt (layout trunc first).rows new) (layout trunc first).clauses both.1)

-- the numbers are written one by one
pub puts_signed : (nsw : Bool) (trunc : Trunc) (first : ℕ) (point : List ℤ) (x m s q : ℤ) → nsw ≡ true → s ≡ sign_of trunc.from (number_at point trunc.a.number) → q ≡ carry trunc point
    → slice_set (slice_set (slice_set (slice_set point first x) (first + 1) m) (first + 1 + 1) s) (first + 1 + 1 + 1) q ≡ put_from first (x ∷ m ∷ helper_numbers nsw trunc point) point
puts_signed true trunc first point x m s q set is_s is_q = ap₂ (λ u v. put_from first (x ∷ m ∷ u ∷ v ∷ []) point) is_s is_q
puts_signed false trunc first point x m s q set is_s is_q = absurd (not_both false set refl)

pub puts_plain : (nsw : Bool) (trunc : Trunc) (first : ℕ) (point : List ℤ) (x m q : ℤ) → nsw ≡ false → q ≡ carry trunc point
    → slice_set (slice_set (slice_set point first x) (first + 1) m) (first + 1 + 1) q ≡ put_from first (x ∷ m ∷ helper_numbers nsw trunc point) point
puts_plain true trunc first point x m q clear is_q = absurd (not_both true refl clear)
puts_plain false trunc first point x m q clear is_q = ap (λ v. put_from first (x ∷ m ∷ v ∷ []) point) is_q

-- ---- what is laid

pub literals_plain : (nuw nsw : Bool) (trunc : Trunc) (carry row : ℕ) (a : Lit) (lits : List Lit) → nsw ≡ false → lits ≡ listed nuw nsw (a ∷ []) [] → a ≡ at_least (Var carry) (pos 1) → lits ≡ literals nuw false trunc carry row
literals_plain nuw nsw trunc carry row a lits clear is is_a = is ∙ ap₂ (λ n p. listed nuw n (p ∷ []) []) clear is_a

pub literals_signed : (nuw nsw : Bool) (trunc : Trunc) (carry row : ℕ) (a t u : Lit) (lits : List Lit) → nsw ≡ true → lits ≡ listed nuw nsw (a ∷ []) (t ∷ u ∷ []) → a ≡ at_least (Var carry) (pos 1)
    → t ≡ at_least (Row row) (pos (2 ^ (trunc.to - 1))) → u ≡ at_most (Row row) (neg_ℤ (pos (2 ^ (trunc.to - 1))) -ℤ pos 1) → lits ≡ literals nuw true trunc carry row
literals_signed nuw nsw trunc carry row a t u lits set is is_a is_t is_u =
    is
    ∙ ap₂ (λ n p. listed nuw n (p ∷ []) (t ∷ u ∷ [])) set is_a
    ∙ ap₂ (λ p q. listed nuw true (at_least (Var carry) (pos 1) ∷ []) (p ∷ q ∷ [])) is_t is_u

raised_plain : (nuw : Bool) (trunc : Trunc) (first r : ℕ)
    → map clause_of (equals r (pos 0)) ++ map clause_of (marks (first + 1) (trunc.a.mark ∷ []) (literals nuw false trunc (first + 1 + 1) 2)) ≡ map (clause_from r) (plain_layout nuw trunc first).clauses
raised_plain true trunc first r = refl
raised_plain false trunc first r = refl

raised_signed : (nuw : Bool) (trunc : Trunc) (first r : ℕ)
    → map clause_of (sign_clauses trunc.from r) ++ (map clause_of (equals (r + 1) (pos 0)) ++ map clause_of (marks (first + 1) (trunc.a.mark ∷ []) (literals nuw true trunc (first + 1 + 1 + 1) (r + 2)))) ≡ map (clause_from r) (signed_layout nuw trunc first).clauses
raised_signed true trunc first r = refl
raised_signed false trunc first r = refl

module _ (nuw : Bool) (trunc : Trunc) (first : ℕ) where
  -- the row of the carry is added
  abbrev pub AddsCarry : (carry : ℕ) → System → System → Type 0
  AddsCarry carry old new = new ≡ record old { rows = old.rows ++ row_of (carry_row trunc first carry) ∷ []; clauses = old.clauses ++ map clause_of (equals (length old.rows) (pos 0)) }

  abbrev pub AddsMarks : List Lit → System → System → Type 0
  AddsMarks lits old new = new ≡ record old { clauses = old.clauses ++ map clause_of (marks (first + 1) (trunc.a.mark ∷ []) lits) }

  abbrev pub AddsSign : System → System → Type 0
  AddsSign old new = new ≡ record old { rows = old.rows ++ row_of (sign_row trunc.from trunc.a.number (first + 1 + 1)) ∷ []; clauses = old.clauses ++ map clause_of (sign_clauses trunc.from (length old.rows)) }

  abbrev pub AddsSigned : List Part → System → System → Type 0
  AddsSigned parts old new = new ≡ record old { rows = old.rows ++ row_of parts ∷ [] }

  pub lays_plain : (old one new : System) (lits : List Lit) → AddsCarry (first + 1 + 1) old one → lits ≡ literals nuw false trunc (first + 1 + 1) 2 → AddsMarks lits one new → Lays (plain_layout nuw trunc first) old new
  lays_plain old one new lits carried are marked =
      let r = length old.rows in
      let equation = map clause_of (equals r (pos 0)) in
      let marks_laid = map clause_of (marks (first + 1) (trunc.a.mark ∷ []) (literals nuw false trunc (first + 1 + 1) 2)) in
      marked
      ∙ ap {A = List Lit} (λ l. record one { clauses = one.clauses ++ map clause_of (marks (first + 1) (trunc.a.mark ∷ []) l) }) are
      ∙ ap {A = System} (λ s. record s { clauses = s.clauses ++ marks_laid }) carried
      ∙ ap {A = List (List Lit)} (λ clauses. record { ranges = old.ranges; rows = old.rows ++ row_of (carry_row trunc first (first + 1 + 1)) ∷ []; clauses = clauses })
      (append_assoc old.clauses equation marks_laid ∙ ap (λ clauses. old.clauses ++ clauses) (raised_plain nuw trunc first r))

  pub lays_signed : (old one two three new : System) (parts : List Part) (lits : List Lit) → AddsSign old one → AddsCarry (first + 1 + 1 + 1) one two → AddsSigned parts two three → parts ≡ signed_row trunc (first + 1 + 1)
      → lits ≡ literals nuw true trunc (first + 1 + 1 + 1) (length old.rows + 2) → AddsMarks lits three new → Lays (signed_layout nuw trunc first) old new
  lays_signed old one two three new parts lits sign carried summed are_parts are marked =
      let r = length old.rows in
      let a = row_of (sign_row trunc.from trunc.a.number (first + 1 + 1)) in
      let b = row_of (carry_row trunc first (first + 1 + 1 + 1)) in
      let signs = map clause_of (sign_clauses trunc.from r) in
      let equation = map clause_of (equals (r + 1) (pos 0)) in
      let marks_laid = map clause_of (marks (first + 1) (trunc.a.mark ∷ []) (literals nuw true trunc (first + 1 + 1 + 1) (r + 2))) in
      let more : length (old.rows ++ a ∷ []) ≡ r + 1 = length-append old.rows (a ∷ []) in
      marked
      ∙ ap {A = List Lit} (λ l. record three { clauses = three.clauses ++ map clause_of (marks (first + 1) (trunc.a.mark ∷ []) l) }) are
      ∙ ap {A = System} (λ s. record s { clauses = s.clauses ++ marks_laid })
      (summed
      ∙ ap {A = System} (λ s. record s { rows = s.rows ++ row_of parts ∷ [] })
      (carried ∙ ap {A = System} (λ s. record s { rows = s.rows ++ b ∷ []; clauses = s.clauses ++ map clause_of (equals (length s.rows) (pos 0)) }) sign))
      ∙ ap₂ (λ rows clauses. record { ranges = old.ranges; rows = rows; clauses = clauses })
      (three_more old.rows a b (row_of parts) ∙ ap {A = List Part} (λ p. old.rows ++ a ∷ b ∷ row_of p ∷ []) are_parts)
      (ap (λ k. ((old.clauses ++ signs) ++ map clause_of (equals k (pos 0))) ++ marks_laid) more
      ∙ append_assoc (old.clauses ++ signs) equation marks_laid
      ∙ append_assoc old.clauses signs (equation ++ marks_laid)
      ∙ ap (λ clauses. old.clauses ++ clauses) (raised_signed nuw trunc first r))

pub literals_known : (nuw nsw : Bool) (trunc : Trunc) (carry row vars rows : ℕ) → carry < vars → (nsw ≡ true → row < rows) → All (λ lit. Exists vars rows lit.term) (literals nuw nsw trunc carry row)
literals_known nuw nsw trunc carry row vars rows carry_known row_known =
    All-from_Each (λ lit. Exists vars rows lit.term) (literals nuw nsw trunc carry row)
    (each-listed (λ lit. Exists vars rows lit.term) nuw nsw (at_least (Var carry) (pos 1) ∷ []) (exceeding trunc.to row) (carry_known, tt) (λ set. (row_known set, (row_known set, tt))))

one_inner : IsInner (pos 1)
one_inner = record { above_least = omega (arith, ints); below_greatest = omega (arith, ints) }

zero_inner : IsInner (pos 0)
zero_inner = record { above_least = omega (arith, ints); below_greatest = omega (arith, ints) }

pub literals_inner : (nuw nsw : Bool) (trunc : Trunc) (carry row : ℕ) → IsWidth trunc.to → All (λ lit. IsInner lit.bound) (literals nuw nsw trunc carry row)
literals_inner nuw nsw trunc carry row w =
    All-from_Each (λ lit. IsInner lit.bound) (literals nuw nsw trunc carry row)
    (each-listed (λ lit. IsInner lit.bound) nuw nsw (at_least (Var carry) (pos 1) ∷ []) (exceeding trunc.to row) (one_inner, tt) (λ set. exceeding-inner trunc.to row w))

pub literals_opposite : (nuw nsw : Bool) (trunc : Trunc) (carry row : ℕ) → IsWidth trunc.to → All (λ lit. IsInner (negation lit).bound) (literals nuw nsw trunc carry row)
literals_opposite nuw nsw trunc carry row w =
    All-from_Each (λ lit. IsInner (negation lit).bound) (literals nuw nsw trunc carry row)
    (each-listed (λ lit. IsInner (negation lit).bound) nuw nsw (at_least (Var carry) (pos 1) ∷ []) (exceeding trunc.to row) (zero_inner, tt) (λ set. exceeding-opposite trunc.to row w))

pub plain_count : (nuw : Bool) (trunc : Trunc) (first : ℕ) → length (plain_layout nuw trunc first).clauses ≡ 4 + length (literals nuw false trunc (first + 1 + 1) 2)
plain_count true trunc first = refl
plain_count false trunc first = refl

pub signed_count : (nuw : Bool) (trunc : Trunc) (first row : ℕ) → length (signed_layout nuw trunc first).clauses ≡ 6 + length (literals nuw true trunc (first + 1 + 1 + 1) row)
signed_count true trunc first row = refl
signed_count false trunc first row = refl
