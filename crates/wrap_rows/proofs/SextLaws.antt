-- The laws of a sign extension's piece.
use Rattle.std.proofs.Common.{◌≡◌, ℕ, ◌+◌, ◌-◌, ◌^◌, ◌<◌, ◌≤◌, Bool, true, false, cond, ◌||◌, ℤ, pos, neg_ℤ, ◌+ℤ◌, ◌-ℤ◌, ◌*ℤ◌, ◌<ℤ◌, ◌≤ℤ◌, List, [], ◌∷◌, ◌++◌, length, slice_set, refl, sym, ap, ◌∙◌, inl, inr, subst, arith}
use Rattle.std.specs.Prelude.{◌↔◌, int_lt, unsigned_abs}
use Rattle.std.specs.Ordering.{int_eq}
use Rattle.std.proofs.Math.IntN.{*ℤ-zero}
use Rattle.std.proofs.Math.ListN.{length-set}
use Rattle.std.proofs.Math.Nat.{pow-le-pow_right}
use Rattle.std.proofs.lemmas.Int.{ints}
use Rattle.std.proofs.lemmas.Nat.{pow_pos}
use Rattle.mix_system.specs.declared.literal.Term.TheVariants.{Row}
use Rattle.mix_system.specs.declared.row.Part.{Part}
use Rattle.mix_system.specs.Fits.{IsTrueAt, term_value}
use Rattle.mix_system.specs.Row.{number_at}
use Rattle.ir_meaning.specs.Whole.{signed, modulo}
use Rattle.ir_meaning.specs.declared.value.Val.TheVariants.{Num}
use Rattle.ir_meaning.specs.Rows.{sext_of}
use Rattle.wrap_rows.specs.declared.sext.Sext.{Sext}
use Rattle.wrap_rows.specs.Layout.{Holds}
use Rattle.wrap_rows.specs.Blocks.{equals, marks, sign_clauses, sign_of}
use Rattle.wrap_rows.specs.Vars.{IsMark, IsNumber, is_marked, value_at}
use Rattle.wrap_rows.specs.Piece.{put_from, AreIn, names_own_rows, mark_of}
use Rattle.wrap_rows.specs.Sext.{IsAt, ranges, layout, vars, CanTake, number, numbers, meaning}
use Rattle.wrap_rows.proofs.CaseLaws.{Some_of}
use Rattle.wrap_rows.proofs.BlockLaws.{each-said, all-true, Each-append, equals-said, equals-true}
use Rattle.wrap_rows.proofs.SignLaws.{sign-law, sign_of-IsMark}
use Rattle.wrap_rows.proofs.LinearLaws.{once, times_one, less_once}
use Rattle.wrap_rows.proofs.PutLaws.{put-before, put-first, put-second}
use Rattle.wrap_rows.proofs.ReadLaws.{not_both, mark_of-IsMark, reads_one}
use Rattle.wrap_rows.proofs.MarkedLaws.{one_said, one_filled}
use Rattle.wrap_rows.proofs.WrapLaws.{number_of, modulo_same, modulo_below, Plain, Lowered, sign_cases}

pub own_rows : (sext : Sext) (first : ℕ) → names_own_rows (layout sext first) ≡ true
own_rows sext first = refl

or_none : (test : Bool) → test ≡ (test || false)
or_none true = refl
or_none false = refl

-- nothing is listed
lists_none : (rows : List (List Part)) (point : List ℤ) → Some_of (IsTrueAt rows point) [] ↔ false ≡ true
lists_none rows point = (λ some. elim some [ ], λ passes. absurd (not_both false passes refl))

-- the second row's sum
abbrev sum_of : (gap : ℕ) (a s x : ℤ) → ℤ
sum_of gap a s x = pos 1 *ℤ a +ℤ (pos gap *ℤ s +ℤ (neg_ℤ (pos 1) *ℤ x +ℤ pos 0))

sum_plain : (gap : ℕ) (a s x : ℤ) → s ≡ pos 0 → sum_of gap a s x ≡ a -ℤ x
sum_plain gap a s x is =
    let none : pos gap *ℤ s ≡ pos 0 = ap (λ z. pos gap *ℤ z) is ∙ *ℤ-zero (pos gap) in
    omega (arith, ints, once a, less_once x, none)

sum_lowered : (gap : ℕ) (a s x : ℤ) → s ≡ pos 1 → sum_of gap a s x ≡ (a +ℤ pos gap) -ℤ x
sum_lowered gap a s x is =
    let all : pos gap *ℤ s ≡ pos gap = ap (λ z. pos gap *ℤ z) is ∙ times_one (pos gap) in
    omega (arith, ints, once a, less_once x, all)

wider : (sext : Sext) (first : ℕ) → IsAt sext first → 2 ^ sext.from ≤ 2 ^ sext.to
wider sext first is_at = pow-le-pow_right {n = 2} (omega arith) {i = sext.from} {j = sext.to} (omega (arith, is_at.wider))

-- the number is the signed reading's
extended : (from to n : ℕ) (s x : ℤ) → 2 ^ from ≤ 2 ^ to → n < 2 ^ from → IsNumber to x → s ≡ sign_of from (pos n) → sum_of (2 ^ to - 2 ^ from) (pos n) s x ≡ pos 0 → modulo to (signed from n) ≡ unsigned_abs x
extended from to n s x room within is_x sign sum =
    elim (sign_cases from n s sign) [
      | inl plain ↦ modulo_same to (signed from n) x is_x (omega (arith, ints, plain.reads, sum, sum_plain (2 ^ to - 2 ^ from) (pos n) s x plain.sign_is))
      | inr lowered ↦ modulo_below to (signed from n) x is_x (omega (arith, ints, lowered.reads, sum, room, sum_lowered (2 ^ to - 2 ^ from) (pos n) s x lowered.sign_is))
    ]

pub sound : (sext : Sext) (first : ℕ) (point : List ℤ) → IsAt sext first → CanTake sext point → AreIn first (ranges sext) point → Holds (layout sext first) point → value_at (vars sext first) point ≡ meaning sext point
sound sext first point is_at takes in_ranges holds =
    let rows = (layout sext first).rows in
    let a = number_at point sext.a.number in
    let x = number_at point first in
    let s = number_at point (first + 1 + 1) in
    let each = each-said (IsTrueAt rows point) (layout sext first).clauses holds in
    let sign : s ≡ sign_of sext.from a = (sign-law rows point 0 sext.from sext.a.number (first + 1 + 1) is_at.from refl takes.number in_ranges.1.1.0).0 (all-true (IsTrueAt rows point) (sign_clauses sext.from 0) (each.0, (each.1.0, tt))) in
    let sum : term_value rows point (Row 1) ≡ pos 0 = equals-said rows point 1 (pos 0) (each.1.1.0, (each.1.1.1.0, tt)) in
    let marked = one_said rows point (first + 1) sext.a.mark [] false in_ranges.1.0 takes.mark (lists_none rows point) each.1.1.1.1 in
    let whole : pos (unsigned_abs a) ≡ a = number_of a takes.number.0 in
    let below : unsigned_abs a < 2 ^ sext.from = omega (arith, ints, takes.number.1, whole) in
    let is_x : IsNumber sext.to x = (in_ranges.0.0, omega (arith, ints, in_ranges.0.1, pow_pos sext.to)) in
    let means : modulo sext.to (signed sext.from (unsigned_abs a)) ≡ unsigned_abs x =
    extended sext.from sext.to (unsigned_abs a) s x (wider sext first is_at) below is_x (sign ∙ ap (sign_of sext.from) (sym whole)) (ap (λ z. sum_of (2 ^ sext.to - 2 ^ sext.from) z s x) whole ∙ sum) in
    reads_one (sext_of sext.from sext.to) x a (number_at point (first + 1)) (number_at point sext.a.mark) false marked (ap Num means)

-- the number that is filled in
record Number (from to : ℕ) (a s x : ℤ) : Type 0 where
  in_range : IsNumber to x
  sum : sum_of (2 ^ to - 2 ^ from) a s x ≡ pos 0

plain_number : (from to n : ℕ) (a s : ℤ) → 2 ^ from ≤ 2 ^ to → pos n ≡ a → Plain from n s → n < 2 ^ from → Number from to a s (cond (int_lt a (pos (2 ^ (from - 1)))) a (a +ℤ pos (2 ^ to - 2 ^ from)))
plain_number from to n a s room is plain within =
    let small : cond (int_lt a (pos (2 ^ (from - 1)))) a (a +ℤ pos (2 ^ to - 2 ^ from)) ≡ a = chosen_first (2 ^ (from - 1)) a (a +ℤ pos (2 ^ to - 2 ^ from)) (omega (arith, ints, is, plain.small)) in
    rw small (record { in_range = (omega (arith, ints, is), omega (arith, ints, is, within, room)); sum = omega (arith, ints, sum_plain (2 ^ to - 2 ^ from) a s a plain.sign_is) })
  where
    chosen_first : (half : ℕ) (a other : ℤ) → a <ℤ pos half → cond (int_lt a (pos half)) a other ≡ a
    chosen_first half a other below = grind (arith, ints)

lowered_number : (from to n : ℕ) (a s : ℤ) → 2 ^ from ≤ 2 ^ to → pos n ≡ a → Lowered from n s → n < 2 ^ from → Number from to a s (cond (int_lt a (pos (2 ^ (from - 1)))) a (a +ℤ pos (2 ^ to - 2 ^ from)))
lowered_number from to n a s room is lowered within =
    let large : cond (int_lt a (pos (2 ^ (from - 1)))) a (a +ℤ pos (2 ^ to - 2 ^ from)) ≡ a +ℤ pos (2 ^ to - 2 ^ from) = chosen_second (2 ^ (from - 1)) a (a +ℤ pos (2 ^ to - 2 ^ from)) (omega (arith, ints, is, lowered.large)) in
    rw large (record { in_range = (omega (arith, ints, is), omega (arith, ints, is, within, room)); sum = omega (arith, ints, sum_lowered (2 ^ to - 2 ^ from) a s (a +ℤ pos (2 ^ to - 2 ^ from)) lowered.sign_is) })
  where
    chosen_second : (half : ℕ) (a other : ℤ) → pos half ≤ℤ a → cond (int_lt a (pos half)) a other ≡ other
    chosen_second half a other above = grind (arith, ints)

filled_number : (from to : ℕ) (a s : ℤ) → 2 ^ from ≤ 2 ^ to → IsNumber from a → s ≡ sign_of from a → Number from to a s (cond (int_lt a (pos (2 ^ (from - 1)))) a (a +ℤ pos (2 ^ to - 2 ^ from)))
filled_number from to a s room is_a sign =
    let whole : pos (unsigned_abs a) ≡ a = number_of a is_a.0 in
    let below : unsigned_abs a < 2 ^ from = omega (arith, ints, is_a.1, whole) in
    elim (sign_cases from (unsigned_abs a) s (sign ∙ ap (sign_of from) (sym whole))) [
      | inl plain ↦ plain_number from to (unsigned_abs a) a s room whole plain below
      | inr lowered ↦ lowered_number from to (unsigned_abs a) a s room whole lowered below
    ]

pub complete : (sext : Sext) (first : ℕ) (point : List ℤ) → IsAt sext first → CanTake sext point → first + length (ranges sext) ≤ length point → AreIn first (ranges sext) (put_from first (numbers sext point) point) × Holds (layout sext first) (put_from first (numbers sext point) point)
complete sext first point is_at takes within =
    let rows = (layout sext first).rows in
    let new = put_from first (numbers sext point) point in
    let a = number_at point sext.a.number in
    let sign = sign_of sext.from a in
    let mark = mark_of (is_marked sext.a point) in
    let kept : number_at new sext.a.number ≡ a = put-before first (numbers sext point) point sext.a.number is_at.number in
    let kept_mark : number_at new sext.a.mark ≡ number_at point sext.a.mark = put-before first (numbers sext point) point sext.a.mark is_at.mark in
    let x : number_at new first ≡ number sext point = put-first first (number sext point) (mark ∷ sign ∷ []) point (omega arith) in
    let m : number_at new (first + 1) ≡ mark = put-second first (number sext point) mark (sign ∷ []) point (omega arith) in
    let s : number_at new (first + 1 + 1) ≡ sign = put-second (first + 1) mark sign [] (slice_set point first (number sext point)) (rw length-set (omega arith)) in
    let is_mark : IsMark (number_at new (first + 1)) = subst IsMark (sym m) (mark_of-IsMark (is_marked sext.a point)) in
    let is_sign : IsMark (number_at new (first + 1 + 1)) = subst IsMark (sym s) (sign_of-IsMark sext.from a) in
    let is_operand : IsMark (number_at new sext.a.mark) = subst IsMark (sym kept_mark) takes.mark in
    let is_a : IsNumber sext.from (number_at new sext.a.number) = subst (IsNumber sext.from) (sym kept) takes.number in
    let filled = filled_number sext.from sext.to a sign (wider sext first is_at) takes.number refl in
    let is_x : IsNumber sext.to (number_at new first) = subst (IsNumber sext.to) (sym x) filled.in_range in
    let gap = 2 ^ sext.to - 2 ^ sext.from in
    let sum : term_value rows new (Row 1) ≡ pos 0 =
    ap (λ z. sum_of gap z (number_at new (first + 1 + 1)) (number_at new first)) kept
    ∙ ap (λ z. sum_of gap a z (number_at new first)) s
    ∙ ap (λ z. sum_of gap a sign z) x
    ∙ filled.sum in
    let signs = (sign-law rows new 0 sext.from sext.a.number (first + 1 + 1) is_at.from refl is_a is_sign).1 (s ∙ ap (sign_of sext.from) (sym kept)) in
    let mark_is : number_at new (first + 1) ≡ mark_of (int_eq (number_at new sext.a.mark) (pos 1) || false) = m ∙ ap (λ z. mark_of (int_eq z (pos 1))) (sym kept_mark) ∙ ap mark_of (or_none (is_marked sext.a new)) in (
      ((is_x.0, omega (arith, ints, is_x.1)), (is_mark, (is_sign, tt))),
      all-true (IsTrueAt rows new) (layout sext first).clauses
          (Each-append (Some_of (IsTrueAt rows new)) (sign_clauses sext.from 0) (equals 1 (pos 0) ++ marks (first + 1) (sext.a.mark ∷ []) [])
          (each-said (IsTrueAt rows new) (sign_clauses sext.from 0) signs)
          (Each-append (Some_of (IsTrueAt rows new)) (equals 1 (pos 0)) (marks (first + 1) (sext.a.mark ∷ []) [])
          (equals-true rows new 1 (pos 0) sum)
          (one_filled rows new (first + 1) sext.a.mark [] false mark_is is_operand (lists_none rows new)))),
    )
