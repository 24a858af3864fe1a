-- The laws of a comparison's piece.
use Rattle.std.proofs.Common.{◌≡◌, ℕ, ◌+◌, ◌-◌, ◌^◌, ◌<◌, ◌≤◌, Bool, true, false, cond, not, ◌&&◌, ◌||◌, ◌==◌, nat_lt, ℤ, pos, negsuc, neg_ℤ, ◌+ℤ◌, ◌-ℤ◌, ◌*ℤ◌, ◌<ℤ◌, ◌≤ℤ◌, ◌⊎◌, List, [], ◌∷◌, ◌++◌, length, slice_set, refl, sym, ap, ◌∙◌, inl, inr, subst, arith}
use Rattle.std.specs.Prelude.{◌↔◌, int_lt, int_le, unsigned_abs, slice_index_or}
use Rattle.std.specs.List.{list_all}
use Rattle.std.specs.Ordering.{int_eq}
use Rattle.std.proofs.Math.IntN.{*ℤ-zero}
use Rattle.std.proofs.Math.ListN.{length-set}
use Rattle.std.proofs.lemmas.Bool.Decides.{nat_tests}
use Rattle.std.proofs.lemmas.Int.{ints, by_lt_z}
use Rattle.mix_system.specs.declared.literal.Term.TheVariants.{Row}
use Rattle.mix_system.specs.declared.literal.Lit.{Lit}
use Rattle.mix_system.specs.declared.row.Part.{Part}
use Rattle.mix_system.specs.Fits.{IsTrueAt, term_value}
use Rattle.mix_system.specs.Row.{number_at}
use Rattle.mix_system.proofs.ProductLaws.{neg_ℤ-*ℤ}
use Rattle.ll_tree.specs.declared.op.Pred.{Pred}
use Rattle.ll_tree.specs.declared.op.Pred.TheVariants.{Eq, Ne, Ugt, Uge, Ult, Ule, Sgt, Sge, Slt, Sle}
use Rattle.ir_meaning.specs.Whole.{IsWidth, signed}
use Rattle.ir_meaning.specs.Value.{poison_if}
use Rattle.ir_meaning.specs.Compare.{holds, is_negative, cmp_on}
use Rattle.wrap_rows.specs.declared.compare.Compare.{Compare}
use Rattle.wrap_rows.specs.Layout.{Holds}
use Rattle.wrap_rows.specs.Blocks.{marks, sign_row, sign_clauses, sign_of, compared, StandsSo}
use Rattle.wrap_rows.specs.Vars.{IsMark, IsNumber, is_marked, value_at}
use Rattle.wrap_rows.specs.Piece.{put_from, AreIn, is_of_rows, names_own_rows, mark_of}
use Rattle.wrap_rows.specs.Compare.{IsAt, reads_signs, needs_signs, left_sign, right_sign, ranges, rows_of, difference_at, sign_clauses_of, listed, value_clauses, layout_of, layout, vars, sign_ranges, reading, read_as, stands_so, holds_of, holds_at, signs_differ, is_poison, signs, numbers, CanTake, meaning}
use Rattle.wrap_rows.proofs.CaseLaws.{by_test, Each, Some_of}
use Rattle.wrap_rows.proofs.BlockLaws.{mark_cases, each-said, all-true, Each-append, Each-left, Each-right, compared-law}
use Rattle.wrap_rows.proofs.SignLaws.{sign-law, sign_of-IsMark}
use Rattle.wrap_rows.proofs.LinearLaws.{once, times_one, less_once}
use Rattle.wrap_rows.proofs.PutLaws.{put-before, put-first, put-second}
use Rattle.wrap_rows.proofs.ReadLaws.{same_tests, not_both, eq_yes, eq_said, le_yes, le_said, lt_yes, lt_said, lt_no, mark_of-IsMark, mark_of-one, reads_two}
use Rattle.wrap_rows.proofs.MarkedLaws.{two_said, two_filled}
use Rattle.wrap_rows.proofs.WrapLaws.{number_of, sign_cases}

-- ---- the rows that the clauses name

-- a predicate's clauses name the row of the difference alone
compared_own : (pred : Pred) (x row rows : ℕ) (rest : List (List Lit)) → nat_lt row rows ≡ true → list_all (list_all (λ lit. is_of_rows rows lit.term)) rest ≡ true
    → list_all (list_all (λ lit. is_of_rows rows lit.term)) (compared pred x row ++ rest) ≡ true
compared_own Eq x row rows rest within others = rw within others
compared_own Ne x row rows rest within others = rw within others
compared_own Ugt x row rows rest within others = rw within others
compared_own Uge x row rows rest within others = rw within others
compared_own Ult x row rows rest within others = rw within others
compared_own Ule x row rows rest within others = rw within others
compared_own Sgt x row rows rest within others = rw within others
compared_own Sge x row rows rest within others = rw within others
compared_own Slt x row rows rest within others = rw within others
compared_own Sle x row rows rest within others = rw within others

own_rows_of : (signed samesign : Bool) (compare : Compare) (first : ℕ) → names_own_rows (layout_of signed samesign compare first) ≡ true
own_rows_of true true compare first = compared_own compare.pred first 3 4 (marks (first + 1) (compare.a.mark ∷ compare.b.mark ∷ []) (listed true)) refl refl
own_rows_of true false compare first = compared_own compare.pred first 2 3 (marks (first + 1) (compare.a.mark ∷ compare.b.mark ∷ []) (listed false)) refl refl
own_rows_of false true compare first = compared_own compare.pred first 3 4 (marks (first + 1) (compare.a.mark ∷ compare.b.mark ∷ []) (listed true)) refl refl
own_rows_of false false compare first = compared_own compare.pred first 0 1 (marks (first + 1) (compare.a.mark ∷ compare.b.mark ∷ []) (listed false)) refl refl

pub own_rows : (compare : Compare) (first : ℕ) → names_own_rows (layout compare first) ≡ true
own_rows compare first = own_rows_of (reads_signs compare.pred) compare.flags.samesign compare first

-- ---- signed readings and signs

-- the signed reading by the sign
reading_by : (width : ℕ) (a s : ℤ) → s ≡ sign_of width a → reading width a ≡ a -ℤ (pos (2 ^ width) *ℤ s)
reading_by width a s is = by_case (int_lt a (pos (2 ^ (width - 1)))) is
  where
    by_case : (test : Bool) → s ≡ cond test (pos 0) (pos 1) → cond test a (a -ℤ pos (2 ^ width)) ≡ a -ℤ (pos (2 ^ width) *ℤ s)
    by_case true zero_here =
        let none : pos (2 ^ width) *ℤ s ≡ pos 0 = ap (λ z. pos (2 ^ width) *ℤ z) zero_here ∙ *ℤ-zero (pos (2 ^ width)) in
        omega (arith, ints, none)
    by_case false one =
        let all : pos (2 ^ width) *ℤ s ≡ pos (2 ^ width) = ap (λ z. pos (2 ^ width) *ℤ z) one ∙ times_one (pos (2 ^ width)) in
        omega (arith, ints, all)

reading_signed : (width n : ℕ) → reading width (pos n) ≡ signed width n
reading_signed width n = refl

-- the sign is the mark of a negative reading
sign_test : (width n : ℕ) → n < 2 ^ width → sign_of width (pos n) ≡ mark_of (is_negative width n)
sign_test width n within =
    elim (sign_cases width n (sign_of width (pos n)) refl) [
      | inl plain ↦ plain.sign_is ∙ ap mark_of (sym (lt_no (signed width n) (pos 0) (omega (arith, ints, plain.reads))))
      | inr lowered ↦ lowered.sign_is ∙ ap mark_of (sym (lt_yes (signed width n) (pos 0) (omega (arith, ints, lowered.reads, within))))
    ]

differ_by : (left right : Bool) → not (int_eq (mark_of left) (mark_of right)) ≡ cond left (not right) right
differ_by true true = refl
differ_by true false = refl
differ_by false true = refl
differ_by false false = refl

-- ---- sums of the rows

difference_sum : (a b : ℤ) → pos 1 *ℤ a +ℤ (neg_ℤ (pos 1) *ℤ b +ℤ pos 0) ≡ a -ℤ b
difference_sum a b = omega (arith, ints, once a, less_once b)

signed_sum : (width : ℕ) (a b s t : ℤ) → s ≡ sign_of width a → t ≡ sign_of width b
    → pos 1 *ℤ a +ℤ (neg_ℤ (pos (2 ^ width)) *ℤ s +ℤ (neg_ℤ (pos 1) *ℤ b +ℤ (pos (2 ^ width) *ℤ t +ℤ pos 0))) ≡ reading width a -ℤ reading width b
signed_sum width a b s t left right =
    omega (arith, ints, once a, less_once b, neg_ℤ-*ℤ (pos (2 ^ width)) s, reading_by width a s left, reading_by width b t right)

-- signs differ where their difference isn't 0
differ_law : (d s t : ℤ) → d ≡ s -ℤ t → ((pos 1 ≤ℤ d) ⊎ ((d ≤ℤ negsuc 0) ⊎ ⊥)) ↔ not (int_eq s t) ≡ true
differ_law d s t is = (
  λ either. by_test (λ test. not test ≡ true) (int_eq s t)
      (λ passes. absurd (apart either (eq_said s t passes)))
      (λ fails. refl),
  λ differs. by_lt_z s t (λ below. inr (inl (omega (arith, ints, is, below))))
      (λ above. by_lt_z t s (λ more. inl (omega (arith, ints, is, more)))
      (λ rest. absurd (other (omega (arith, ints, above, rest)) differs))),
)
  where
    apart : (pos 1 ≤ℤ d) ⊎ ((d ≤ℤ negsuc 0) ⊎ ⊥) → s ≡ t → ⊥
    apart either same =
        elim either [
          | inl above ↦ omega (arith, ints, is, same, above)
          | inr rest ↦ elim rest [ inl below ↦ omega (arith, ints, is, same, below) | inr none ↦ elim none [ ] ]
        ]

    other : s ≡ t → not (int_eq s t) ≡ true → ⊥
    other same differs = not_both (not (int_eq s t)) differs (ap not (eq_yes s t same))

-- ---- what the predicate says

less_law : (d x y : ℤ) → d ≡ x -ℤ y → (d <ℤ pos 0) ↔ int_lt x y ≡ true
less_law d x y is = (λ below. lt_yes x y (omega (arith, ints, is, below)), λ passes. omega (arith, ints, is, lt_said x y passes))

less_or_equal_law : (d x y : ℤ) → d ≡ x -ℤ y → (d ≤ℤ pos 0) ↔ int_le x y ≡ true
less_or_equal_law d x y is = (λ below. le_yes x y (omega (arith, ints, is, below)), λ passes. omega (arith, ints, is, le_said x y passes))

greater_law : (d x y : ℤ) → d ≡ x -ℤ y → (pos 0 <ℤ d) ↔ int_lt y x ≡ true
greater_law d x y is = (λ above. lt_yes y x (omega (arith, ints, is, above)), λ passes. omega (arith, ints, is, lt_said y x passes))

greater_or_equal_law : (d x y : ℤ) → d ≡ x -ℤ y → (pos 0 ≤ℤ d) ↔ int_le y x ≡ true
greater_or_equal_law d x y is = (λ above. le_yes y x (omega (arith, ints, is, above)), λ passes. omega (arith, ints, is, le_said y x passes))

-- a difference stands to 0 as its numbers stand to each other
stands_law : (pred : Pred) (d x y : ℤ) → d ≡ x -ℤ y → StandsSo pred d ↔ stands_so pred x y ≡ true
stands_law Eq d x y is = (λ none. eq_yes x y (omega (arith, ints, is, none)), λ passes. omega (arith, ints, is, eq_said x y passes))
stands_law Ne d x y is = (
  λ other. by_test (λ test. not test ≡ true) (int_eq x y) (λ passes. absurd (other (omega (arith, ints, is, eq_said x y passes)))) (λ fails. refl),
  λ differs none. not_both (not (int_eq x y)) differs (ap not (eq_yes x y (omega (arith, ints, is, none)))),
)
stands_law Ult d x y is = less_law d x y is
stands_law Slt d x y is = less_law d x y is
stands_law Ule d x y is = less_or_equal_law d x y is
stands_law Sle d x y is = less_or_equal_law d x y is
stands_law Ugt d x y is = greater_law d x y is
stands_law Sgt d x y is = greater_law d x y is
stands_law Uge d x y is = greater_or_equal_law d x y is
stands_law Sge d x y is = greater_or_equal_law d x y is

equal_law : (m n : ℕ) → (m == n) ≡ int_eq (pos m) (pos n)
equal_law m n =
    same_tests (m == n) (int_eq (pos m) (pos n))
    (λ passes. eq_yes (pos m) (pos n) (ap pos (same_said passes)))
    (λ passes. same_yes (omega (arith, ints, eq_said (pos m) (pos n) passes)))
  where
    same_said : (m == n) ≡ true → m ≡ n
    same_said passes = grind (arith, nat_tests)

    same_yes : m ≡ n → (m == n) ≡ true
    same_yes same = grind (arith, nat_tests)

-- the predicate's meaning
holds_law : (pred : Pred) (width m n : ℕ) → holds pred width m n ≡ holds_of pred width (pos m) (pos n)
holds_law Eq width m n = equal_law m n
holds_law Ne width m n = ap not (equal_law m n)
holds_law Ult width m n = refl
holds_law Ule width m n = refl
holds_law Ugt width m n = refl
holds_law Uge width m n = refl
holds_law Slt width m n = refl
holds_law Sle width m n = refl
holds_law Sgt width m n = refl
holds_law Sge width m n = refl

-- ---- the layout at a point

module _ (compare : Compare) (first : ℕ) (point : List ℤ) where
  abbrev a_here : ℤ
  a_here = number_at point compare.a.number

  abbrev b_here : ℤ
  b_here = number_at point compare.b.number

  -- the signs, where they stand, are those of the operands
  abbrev AreSigns : Bool → Type 0
  AreSigns needed = needed ≡ true → (number_at point (left_sign first) ≡ sign_of compare.width a_here) × (number_at point (right_sign first) ≡ sign_of compare.width b_here)

  abbrev AreMarks : Bool → Type 0
  AreMarks needed = needed ≡ true → IsMark (number_at point (left_sign first)) × IsMark (number_at point (right_sign first))

  both_signs : (rows : List (List Part)) → IsWidth compare.width → slice_index_or rows 0 [] ≡ sign_row compare.width compare.a.number (left_sign first) → slice_index_or rows 1 [] ≡ sign_row compare.width compare.b.number (right_sign first)
      → IsNumber compare.width a_here → IsNumber compare.width b_here → AreMarks true → Each (Some_of (IsTrueAt rows point)) (sign_clauses compare.width 0 ++ sign_clauses compare.width 1) ↔ AreSigns true
  both_signs rows w left_row right_row is_a is_b are_marks =
      let left = sign-law rows point 0 compare.width compare.a.number (left_sign first) w left_row is_a (are_marks refl).0 in
      let right = sign-law rows point 1 compare.width compare.b.number (right_sign first) w right_row is_b (are_marks refl).1 in (
        λ each passes. (
          left.0 (all-true (IsTrueAt rows point) (sign_clauses compare.width 0) (each.0, (each.1.0, tt))),
          right.0 (all-true (IsTrueAt rows point) (sign_clauses compare.width 1) each.1.1),
        ),
        λ says.
            Each-append (Some_of (IsTrueAt rows point)) (sign_clauses compare.width 0) (sign_clauses compare.width 1)
            (each-said (IsTrueAt rows point) (sign_clauses compare.width 0) (left.1 (says refl).0))
            (each-said (IsTrueAt rows point) (sign_clauses compare.width 1) (right.1 (says refl).1)),
      )

  signs_law : (signed samesign : Bool) → IsWidth compare.width → IsNumber compare.width a_here → IsNumber compare.width b_here → AreMarks (signed || samesign)
      → Each (Some_of (IsTrueAt (rows_of signed samesign compare first) point)) (sign_clauses_of (signed || samesign) compare) ↔ AreSigns (signed || samesign)
  signs_law true samesign w is_a is_b are_marks = both_signs (rows_of true samesign compare first) w refl refl is_a is_b are_marks
  signs_law false true w is_a is_b are_marks = both_signs (rows_of false true compare first) w refl refl is_a is_b are_marks
  signs_law false false w is_a is_b are_marks = (λ each passes. absurd (not_both false passes refl), λ says. tt)

  sum_law : (signed samesign : Bool) → AreSigns (signed || samesign) → term_value (rows_of signed samesign compare first) point (Row (difference_at signed samesign)) ≡ read_as signed compare.width a_here -ℤ read_as signed compare.width b_here
  sum_law true true are = signed_sum compare.width a_here b_here (number_at point (left_sign first)) (number_at point (right_sign first)) (are refl).0 (are refl).1
  sum_law true false are = signed_sum compare.width a_here b_here (number_at point (left_sign first)) (number_at point (right_sign first)) (are refl).0 (are refl).1
  sum_law false true are = difference_sum a_here b_here
  sum_law false false are = difference_sum a_here b_here

  listed_when : (rows : List (List Part)) → AreSigns true → term_value rows point (Row 2) ≡ number_at point (left_sign first) -ℤ number_at point (right_sign first)
      → Some_of (IsTrueAt rows point) (listed true) ↔ signs_differ compare.width a_here b_here ≡ true
  listed_when rows are sum =
      differ_law (term_value rows point (Row 2)) (sign_of compare.width a_here) (sign_of compare.width b_here) (omega (arith, ints, sum, (are refl).0, (are refl).1))

  listed_law : (signed samesign : Bool) → AreSigns (signed || samesign) → Some_of (IsTrueAt (rows_of signed samesign compare first) point) (listed samesign) ↔ (samesign && signs_differ compare.width a_here b_here) ≡ true
  listed_law true true are = listed_when (rows_of true true compare first) are (difference_sum (number_at point (left_sign first)) (number_at point (right_sign first)))
  listed_law false true are = listed_when (rows_of false true compare first) are (difference_sum (number_at point (left_sign first)) (number_at point (right_sign first)))
  listed_law signed false are = (λ some. elim some [ ], λ passes. absurd (not_both false passes refl))

-- ---- what number and mark stand for

-- a mark that is 1 just where a test passes
mark_is : (x : ℤ) (test : Bool) → IsMark x → (x ≡ pos 1 ↔ test ≡ true) → x ≡ mark_of test
mark_is x true is says = says.1 refl
mark_is x false is says = elim (mark_cases x is) [ inl zero_here ↦ zero_here | inr one ↦ absurd (not_both false (says.0 one) refl) ]

size_of_mark : (test : Bool) → unsigned_abs (mark_of test) ≡ cond test 1 0
size_of_mark true = refl
size_of_mark false = refl

means : (compare : Compare) (a b x : ℤ) → IsNumber compare.width a → IsNumber compare.width b
    → x ≡ mark_of (holds_of compare.pred compare.width a b)
    → cmp_on compare.pred compare.flags compare.width (unsigned_abs a) (unsigned_abs b) ≡ poison_if (compare.flags.samesign && signs_differ compare.width a b) (unsigned_abs x)
means compare a b x is_a is_b is =
    let width = compare.width in
    let m = unsigned_abs a in
    let n = unsigned_abs b in
    let whole_a : pos m ≡ a = number_of a is_a.0 in
    let whole_b : pos n ≡ b = number_of b is_b.0 in
    let left : sign_of width a ≡ mark_of (is_negative width m) = ap (sign_of width) (sym whole_a) ∙ sign_test width m (omega (arith, ints, is_a.1, whole_a)) in
    let right : sign_of width b ≡ mark_of (is_negative width n) = ap (sign_of width) (sym whole_b) ∙ sign_test width n (omega (arith, ints, is_b.1, whole_b)) in
    let differ : signs_differ width a b ≡ cond (is_negative width m) (not (is_negative width n)) (is_negative width n) =
    ap (λ z. not (int_eq z (sign_of width b))) left ∙ ap (λ z. not (int_eq (mark_of (is_negative width m)) z)) right ∙ differ_by (is_negative width m) (is_negative width n) in
    let stands : holds compare.pred width m n ≡ holds_of compare.pred width a b =
    holds_law compare.pred width m n ∙ ap (λ z. holds_of compare.pred width z (pos n)) whole_a ∙ ap (λ z. holds_of compare.pred width a z) whole_b in
    let number : cond (holds compare.pred width m n) 1 0 ≡ unsigned_abs x =
    ap (λ test. cond {A = ℕ} test 1 0) stands ∙ sym (size_of_mark (holds_of compare.pred width a b)) ∙ ap unsigned_abs (sym is) in
    ap (λ test. poison_if (compare.flags.samesign && test) (cond {A = ℕ} (holds compare.pred width m n) 1 0)) (sym differ)
    ∙ ap (λ z. poison_if (compare.flags.samesign && signs_differ width a b) z) number

-- ---- soundness

marks_in : (needed : Bool) (compare : Compare) (first : ℕ) (point : List ℤ) → AreIn (first + 1 + 1) (sign_ranges needed) point → AreMarks compare first point needed
marks_in true compare first point in_ranges = λ passes. (in_ranges.0, in_ranges.1.0)
marks_in false compare first point in_ranges = λ passes. absurd (not_both false passes refl)

pub sound : (compare : Compare) (first : ℕ) (point : List ℤ) → IsAt compare first → CanTake compare point → AreIn first (ranges compare) point → Holds (layout compare first) point → value_at (vars compare first) point ≡ meaning compare point
sound compare first point is_at takes in_ranges holds_here =
    let signed = reads_signs compare.pred in
    let samesign = compare.flags.samesign in
    let rows = rows_of signed samesign compare first in
    let width = compare.width in
    let a = number_at point compare.a.number in
    let b = number_at point compare.b.number in
    let x = number_at point first in
    let says = Some_of (IsTrueAt rows point) in
    let own = sign_clauses_of (signed || samesign) compare in
    let rest = value_clauses signed samesign compare first in
    let predicate = compared compare.pred first (difference_at signed samesign) in
    let mark_clauses = marks (first + 1) (compare.a.mark ∷ compare.b.mark ∷ []) (listed samesign) in
    let each = each-said (IsTrueAt rows point) (layout compare first).clauses holds_here in
    let are_marks = marks_in (needs_signs compare) compare first point in_ranges.1.1 in
    let are = (signs_law compare first point signed samesign is_at.width takes.a.number takes.b.number are_marks).0 (Each-left says own rest each) in
    let later = Each-right says own rest each in
    let sum : term_value rows point (Row (difference_at signed samesign)) ≡ read_as signed width a -ℤ read_as signed width b = sum_law compare first point signed samesign are in
    let stands = (compared-law rows point compare.pred first (difference_at signed samesign) in_ranges.0).0 (all-true (IsTrueAt rows point) predicate (Each-left says predicate mark_clauses later)) in
    let law = stands_law compare.pred (term_value rows point (Row (difference_at signed samesign))) (read_as signed width a) (read_as signed width b) sum in
    let is : x ≡ mark_of (holds_of compare.pred width a b) = mark_is x (holds_of compare.pred width a b) in_ranges.0 (λ one. law.0 (stands.0 one), λ passes. stands.1 (law.1 passes)) in
    let marked = two_said rows point (first + 1) compare.a.mark compare.b.mark (listed samesign) (samesign && signs_differ width a b) in_ranges.1.0 takes.a.mark takes.b.mark (listed_law compare first point signed samesign are) (Each-right says predicate mark_clauses later) in
    reads_two (cmp_on compare.pred compare.flags width) x a b (number_at point (first + 1)) (number_at point compare.a.mark) (number_at point compare.b.mark) (samesign && signs_differ width a b) marked
    (means compare a b x takes.a.number takes.b.number is)

-- ---- completeness

-- the signs are put in where they stand
signs_put : (needed : Bool) (first : ℕ) (s t : ℤ) (point : List ℤ) → (needed ≡ true → first + 1 < length point) → needed ≡ true
    → (number_at (put_from first (cond needed (s ∷ t ∷ []) []) point) first ≡ s) × (number_at (put_from first (cond needed (s ∷ t ∷ []) []) point) (first + 1) ≡ t)
signs_put true first s t point within passes = (put-first first s (t ∷ []) point (omega (arith, within refl)), put-second first s t [] point (within refl))
signs_put false first s t point within passes = absurd (not_both false passes refl)

signs_in : (needed : Bool) (compare : Compare) (first : ℕ) (point : List ℤ) → AreMarks compare first point needed → AreIn (first + 1 + 1) (sign_ranges needed) point
signs_in true compare first point are = ((are refl).0, ((are refl).1, tt))
signs_in false compare first point are = tt

room_for_signs : (needed : Bool) (first most : ℕ) → first + length {A = ℤ × ℤ} ((pos 0, pos 1) ∷ (pos 0, pos 1) ∷ sign_ranges needed) ≤ most → needed ≡ true → first + 1 + 1 + 1 < most
room_for_signs true first most within passes = omega (arith, within)
room_for_signs false first most within passes = absurd (not_both false passes refl)

pub complete : (compare : Compare) (first : ℕ) (point : List ℤ) → IsAt compare first → CanTake compare point → first + length (ranges compare) ≤ length point → AreIn first (ranges compare) (put_from first (numbers compare point) point) × Holds (layout compare first) (put_from first (numbers compare point) point)
complete compare first point is_at takes within =
    let signed = reads_signs compare.pred in
    let samesign = compare.flags.samesign in
    let rows = rows_of signed samesign compare first in
    let width = compare.width in
    let new = put_from first (numbers compare point) point in
    let says = Some_of (IsTrueAt rows new) in
    let a = number_at point compare.a.number in
    let b = number_at point compare.b.number in
    let x_mark = mark_of (holds_at compare point) in
    let m_mark = mark_of (is_poison compare point) in
    let own_signs = signs (needs_signs compare) width a b in
    let before : List ℤ = slice_set (slice_set point first x_mark) (first + 1) m_mark in
    let kept_a : number_at new compare.a.number ≡ a = put-before first (numbers compare point) point compare.a.number is_at.a in
    let kept_b : number_at new compare.b.number ≡ b = put-before first (numbers compare point) point compare.b.number is_at.b in
    let kept_ma : number_at new compare.a.mark ≡ number_at point compare.a.mark = put-before first (numbers compare point) point compare.a.mark is_at.a_mark in
    let kept_mb : number_at new compare.b.mark ≡ number_at point compare.b.mark = put-before first (numbers compare point) point compare.b.mark is_at.b_mark in
    let x : number_at new first ≡ x_mark = put-first first x_mark (m_mark ∷ own_signs) point (omega (arith, within)) in
    let m : number_at new (first + 1) ≡ m_mark = put-second first x_mark m_mark own_signs point (omega (arith, within)) in
    let room : needs_signs compare ≡ true → first + 1 + 1 + 1 < length before = λ needed. rw (length-set, length-set) (room_for_signs (needs_signs compare) first (length point) within needed) in
    let put = signs_put (needs_signs compare) (first + 1 + 1) (sign_of width a) (sign_of width b) before room in
    let are : AreSigns compare first new (needs_signs compare) = λ needed. ((put needed).0 ∙ ap (sign_of width) (sym kept_a), (put needed).1 ∙ ap (sign_of width) (sym kept_b)) in
    let are_marks : AreMarks compare first new (needs_signs compare) = λ needed. (subst IsMark (sym (put needed).0) (sign_of-IsMark width a), subst IsMark (sym (put needed).1) (sign_of-IsMark width b)) in
    let is_x : IsMark (number_at new first) = subst IsMark (sym x) (mark_of-IsMark (holds_at compare point)) in
    let is_m : IsMark (number_at new (first + 1)) = subst IsMark (sym m) (mark_of-IsMark (is_poison compare point)) in
    let is_a : IsNumber width (number_at new compare.a.number) = subst (IsNumber width) (sym kept_a) takes.a.number in
    let is_b : IsNumber width (number_at new compare.b.number) = subst (IsNumber width) (sym kept_b) takes.b.number in
    let is_ma : IsMark (number_at new compare.a.mark) = subst IsMark (sym kept_ma) takes.a.mark in
    let is_mb : IsMark (number_at new compare.b.mark) = subst IsMark (sym kept_mb) takes.b.mark in
    let sum : term_value rows new (Row (difference_at signed samesign)) ≡ read_as signed width a -ℤ read_as signed width b =
    sum_law compare first new signed samesign are
    ∙ ap (λ z. read_as signed width z -ℤ read_as signed width (number_at new compare.b.number)) kept_a
    ∙ ap (λ z. read_as signed width a -ℤ read_as signed width z) kept_b in
    let law = stands_law compare.pred (term_value rows new (Row (difference_at signed samesign))) (read_as signed width a) (read_as signed width b) sum in
    let test = mark_of-one (holds_at compare point) in
    let predicate = compared compare.pred first (difference_at signed samesign) in
    let mark_clauses = marks (first + 1) (compare.a.mark ∷ compare.b.mark ∷ []) (listed samesign) in
    let stands = (compared-law rows new compare.pred first (difference_at signed samesign) is_x).1 (
      λ one. law.1 (test.0 (sym x ∙ one)),
      λ so. x ∙ test.1 (law.0 so),
    ) in
    let barred = samesign && signs_differ width (number_at new compare.a.number) (number_at new compare.b.number) in
    let mark_here : number_at new (first + 1) ≡ mark_of (int_eq (number_at new compare.a.mark) (pos 1) || (int_eq (number_at new compare.b.mark) (pos 1) || barred)) =
    m
    ∙ ap (λ z. mark_of (int_eq z (pos 1) || (is_marked compare.b point || (samesign && signs_differ width a b)))) (sym kept_ma)
    ∙ ap (λ z. mark_of (int_eq (number_at new compare.a.mark) (pos 1) || (int_eq z (pos 1) || (samesign && signs_differ width a b)))) (sym kept_mb)
    ∙ ap (λ z. mark_of (int_eq (number_at new compare.a.mark) (pos 1) || (int_eq (number_at new compare.b.mark) (pos 1) || (samesign && signs_differ width z b)))) (sym kept_a)
    ∙ ap (λ z. mark_of (int_eq (number_at new compare.a.mark) (pos 1) || (int_eq (number_at new compare.b.mark) (pos 1) || (samesign && signs_differ width (number_at new compare.a.number) z)))) (sym kept_b) in (
      (is_x, (is_m, signs_in (needs_signs compare) compare first new are_marks)),
      all-true (IsTrueAt rows new) (layout compare first).clauses
          (Each-append says (sign_clauses_of (needs_signs compare) compare) (value_clauses signed samesign compare first)
          ((signs_law compare first new signed samesign is_at.width is_a is_b are_marks).1 are)
          (Each-append says predicate mark_clauses
          (each-said (IsTrueAt rows new) predicate stands)
          (two_filled rows new (first + 1) compare.a.mark compare.b.mark (listed samesign) barred mark_here is_ma is_mb (listed_law compare first new signed samesign are)))),
    )
