-- The laws of a zero extension's piece.
use Rattle.std.proofs.Common.{◌≡◌, ℕ, ◌+◌, ◌-◌, ◌^◌, ◌<◌, ◌≤◌, Bool, true, cond, ◌&&◌, ◌||◌, ℤ, pos, ◌-ℤ◌, ◌≤ℤ◌, ◌⊎◌, List, [], ◌∷◌, ◌++◌, length, refl, sym, ap, ◌∙◌, inl, inr, subst, arith}
use Rattle.std.specs.Prelude.{◌↔◌, int_lt, int_le, unsigned_abs}
use Rattle.std.proofs.Math.Nat.{pow-le-pow_right}
use Rattle.std.proofs.lemmas.Bool.Decides.{nat_tests}
use Rattle.std.proofs.lemmas.Int.{ints, by_lt_z}
use Rattle.std.proofs.lemmas.Nat.{pow_pos}
use Rattle.mix_system.specs.declared.literal.Term.TheVariants.{Var, Row}
use Rattle.mix_system.specs.declared.row.Part.{Part}
use Rattle.mix_system.specs.Fits.{IsTrueAt, term_value}
use Rattle.mix_system.specs.Row.{number_at}
use Rattle.ir_meaning.specs.Whole.{signed}
use Rattle.ir_meaning.specs.Value.{poison_if}
use Rattle.ir_meaning.specs.Rows.{zext_of}
use Rattle.wrap_rows.specs.declared.zext.Zext.{Zext}
use Rattle.wrap_rows.specs.Layout.{Holds, at_least}
use Rattle.wrap_rows.specs.Blocks.{equals, marks}
use Rattle.wrap_rows.specs.Vars.{IsMark, is_marked, value_at}
use Rattle.wrap_rows.specs.Piece.{put_from, AreIn, names_own_rows, mark_of}
use Rattle.wrap_rows.specs.Zext.{IsAt, ranges, listed, layout, vars, CanTake, numbers, meaning}
use Rattle.wrap_rows.proofs.CaseLaws.{by_test, Some_of}
use Rattle.wrap_rows.proofs.BlockLaws.{each-said, all-true, Each-append, equals-said, equals-true, marks-said, marks-true}
use Rattle.wrap_rows.proofs.LinearLaws.{once, less_once}
use Rattle.wrap_rows.proofs.PutLaws.{put-before, put-first, put-second}
use Rattle.wrap_rows.proofs.ReadLaws.{same_tests, eq_yes, eq_said, le_yes, le_said, lt_yes, lt_said, mark_of-IsMark, mark_of-one, or_said, or_left, or_right, flag_lists, reads_one}

pub own_rows : (zext : Zext) (first : ℕ) → names_own_rows (layout zext first) ≡ true
own_rows zext first =
    by_test (λ test. names_own_rows (record { rows = (layout zext first).rows; clauses = equals 0 (pos 0) ++ marks (first + 1) (zext.a.mark ∷ []) (cond test (at_least (Var zext.a.number) (pos (2 ^ (zext.from - 1))) ∷ []) []) }) ≡ true) zext.flags.nneg
    (λ passes. refl) (λ fails. refl)

-- the test of the flag
abbrev is_large : Zext → List ℤ → Bool
is_large zext point = int_le (pos (2 ^ (zext.from - 1))) (number_at point zext.a.number)

-- the clauses at a point whose marks are marks
lists : (zext : Zext) (rows : List (List Part)) (point : List ℤ) → (Some_of (IsTrueAt rows point) (listed zext) ↔ (zext.flags.nneg && is_large zext point) ≡ true)
lists zext rows point =
    flag_lists (IsTrueAt rows point) zext.flags.nneg (is_large zext point) (at_least (Var zext.a.number) (pos (2 ^ (zext.from - 1))))
    (λ large. le_yes (pos (2 ^ (zext.from - 1))) (number_at point zext.a.number) large, λ passes. le_said (pos (2 ^ (zext.from - 1))) (number_at point zext.a.number) passes)

-- a signed reading is negative from the half on
negative : (width n : ℕ) → n < 2 ^ width → int_lt (signed width n) (pos 0) ≡ int_le (pos (2 ^ (width - 1))) (pos n)
negative width n within =
    same_tests (int_lt (signed width n) (pos 0)) (int_le (pos (2 ^ (width - 1))) (pos n))
    (λ passes. by_lt_z (pos n) (pos (2 ^ (width - 1)))
    (λ small.
    let reads : signed width n ≡ pos n = plain (omega (arith, ints, small)) in
    absurd (omega (arith, ints, lt_said (signed width n) (pos 0) passes, reads)))
    (λ large. le_yes (pos (2 ^ (width - 1))) (pos n) large))
    (λ passes.
    let large = le_said (pos (2 ^ (width - 1))) (pos n) passes in
    let reads : signed width n ≡ pos n -ℤ pos (2 ^ width) = lowered (omega (arith, ints, large)) in
    lt_yes (signed width n) (pos 0) (omega (arith, ints, reads)))
  where
    plain : n < 2 ^ (width - 1) → signed width n ≡ pos n
    plain below = grind (arith, nat_tests)

    lowered : 2 ^ (width - 1) ≤ n → signed width n ≡ pos n -ℤ pos (2 ^ width)
    lowered above = grind (arith, nat_tests)

number_of : (z : ℤ) → pos 0 ≤ℤ z → pos (unsigned_abs z) ≡ z
number_of z above = omega (arith, ints)

pub sound : (zext : Zext) (first : ℕ) (point : List ℤ) → IsAt zext first → CanTake zext point → AreIn first (ranges zext) point → Holds (layout zext first) point → value_at (vars zext first) point ≡ meaning zext point
sound zext first point is_at takes in_ranges holds =
    let rows = (layout zext first).rows in
    let a = number_at point zext.a.number in
    let x = number_at point first in
    let each = each-said (IsTrueAt rows point) (layout zext first).clauses holds in
    let sum : term_value rows point (Row 0) ≡ pos 0 = equals-said rows point 0 (pos 0) (each.0, (each.1.0, tt)) in
    let same : a ≡ x = omega (arith, ints, sum, once a, less_once x) in
    let marked = marks-said rows point (first + 1) (zext.a.mark ∷ []) (listed zext) in_ranges.1.0 (takes.mark, tt) each.1.1 in
    let barred = zext.flags.nneg && is_large zext point in
    let said = lists zext rows point in
    let number : pos (unsigned_abs a) ≡ a = number_of a takes.number.0 in
    let test : int_lt (signed zext.from (unsigned_abs a)) (pos 0) ≡ is_large zext point = negative zext.from (unsigned_abs a) (omega (arith, ints, takes.number.1, number)) ∙ ap (λ z. int_le (pos (2 ^ (zext.from - 1))) z) number in
    let means : zext_of zext.flags zext.from (unsigned_abs a) ≡ poison_if barred (unsigned_abs x) =
    ap (λ t. poison_if (zext.flags.nneg && t) (unsigned_abs a)) test ∙ ap (λ z. poison_if barred (unsigned_abs z)) same in
    reads_one (zext_of zext.flags zext.from) x a (number_at point (first + 1)) (number_at point zext.a.mark) barred (
      λ one. elim (marked.0 one) [ inl some ↦ elim some [ inl here ↦ inl here | inr none ↦ elim none [ ] ] | inr some ↦ inr (said.0 some) ],
      λ either. elim either [ inl here ↦ marked.1 (inl (inl here)) | inr bars ↦ marked.1 (inr (said.1 bars)) ],
    )
    means

pub complete : (zext : Zext) (first : ℕ) (point : List ℤ) → IsAt zext first → CanTake zext point → first + length (ranges zext) ≤ length point → AreIn first (ranges zext) (put_from first (numbers zext point) point) × Holds (layout zext first) (put_from first (numbers zext point) point)
complete zext first point is_at takes within =
    let rows = (layout zext first).rows in
    let new = put_from first (numbers zext point) point in
    let a = number_at point zext.a.number in
    let test = is_marked zext.a point || (zext.flags.nneg && is_large zext point) in
    let kept : number_at new zext.a.number ≡ a = put-before first (numbers zext point) point zext.a.number is_at.number in
    let kept_mark : number_at new zext.a.mark ≡ number_at point zext.a.mark = put-before first (numbers zext point) point zext.a.mark is_at.mark in
    let x : number_at new first ≡ a = put-first first a (mark_of test ∷ []) point (omega arith) in
    let m : number_at new (first + 1) ≡ mark_of test = put-second first a (mark_of test) [] point (omega arith) in
    let is_mark : IsMark (number_at new (first + 1)) = subst IsMark (sym m) (mark_of-IsMark test) in
    let is_operand : IsMark (number_at new zext.a.mark) = subst IsMark (sym kept_mark) takes.mark in
    let room : 2 ^ zext.from ≤ 2 ^ zext.to = pow-le-pow_right {n = 2} (omega arith) {i = zext.from} {j = zext.to} (omega (arith, is_at.wider)) in
    let said : Some_of (IsTrueAt rows new) (listed zext) ↔ (zext.flags.nneg && is_large zext point) ≡ true = subst (λ z. Some_of (IsTrueAt rows new) (listed zext) ↔ (zext.flags.nneg && int_le (pos (2 ^ (zext.from - 1))) z) ≡ true) kept (lists zext rows new) in
    let sum : term_value rows new (Row 0) ≡ pos 0 = omega (arith, ints, once (number_at new zext.a.number), less_once (number_at new first), kept, x) in
    let mark_said : number_at new (first + 1) ≡ pos 1 ↔ (Some_of (λ operand. number_at new operand ≡ pos 1) (zext.a.mark ∷ []) ⊎ Some_of (IsTrueAt rows new) (listed zext)) = (
      λ one. elim (or_said (is_marked zext.a point) (zext.flags.nneg && is_large zext point) ((mark_of-one test).0 (sym m ∙ one))) [
        | inl poisoned ↦ inl (inl (kept_mark ∙ eq_said (number_at point zext.a.mark) (pos 1) poisoned))
        | inr bars ↦ inr (said.1 bars)
      ],
      λ either. m ∙ (mark_of-one test).1 (elim either [
        | inl some ↦ or_left (is_marked zext.a point) (zext.flags.nneg && is_large zext point) (elim some [ inl here ↦ eq_yes (number_at point zext.a.mark) (pos 1) (sym kept_mark ∙ here) | inr none ↦ elim none [ ] ])
        | inr some ↦ or_right (is_marked zext.a point) (zext.flags.nneg && is_large zext point) (said.0 some)
      ]),
    ) in (
      ((omega (arith, ints, x, takes.number.0), omega (arith, ints, x, takes.number.1, room, pow_pos zext.to)), (is_mark, tt)),
      all-true (IsTrueAt rows new) (layout zext first).clauses
          (Each-append (Some_of (IsTrueAt rows new)) (equals 0 (pos 0)) (marks (first + 1) (zext.a.mark ∷ []) (listed zext))
          (equals-true rows new 0 (pos 0) sum)
          (marks-true rows new (first + 1) (zext.a.mark ∷ []) (listed zext) is_mark (is_operand, tt) mark_said)),
    )
