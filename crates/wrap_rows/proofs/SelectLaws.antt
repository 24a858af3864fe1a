-- The laws of a choice's piece.
use Rattle.std.proofs.Common.{◌≡◌, ℕ, ◌+◌, ◌<◌, ◌≤◌, Bool, true, false, cond, ◌==◌, ◌||◌, ℤ, pos, neg_ℤ, ◌+ℤ◌, ◌≤ℤ◌, ◌⊎◌, List, [], ◌∷◌, length, refl, sym, ap, ◌∙◌, inl, inr, subst, arith}
use Rattle.std.specs.Prelude.{unsigned_abs}
use Rattle.std.specs.Ordering.{int_eq}
use Rattle.std.proofs.lemmas.Int.{ints}
use Rattle.mix_system.specs.declared.literal.Term.TheVariants.{Row}
use Rattle.mix_system.specs.Fits.{IsTrueAt, term_value}
use Rattle.mix_system.specs.Row.{number_at}
use Rattle.ir_meaning.specs.Value.{poison_if, select_of}
use Rattle.wrap_rows.specs.declared.select.Select.{Select}
use Rattle.wrap_rows.specs.Layout.{Holds}
use Rattle.wrap_rows.specs.Vars.{IsMark, IsNumber, is_marked, value_at}
use Rattle.wrap_rows.specs.Piece.{put_from, AreIn, names_own_rows, mark_of}
use Rattle.wrap_rows.specs.Select.{IsAt, ranges, layout, vars, is_first, is_poison, CanTake, numbers, meaning}
use Rattle.wrap_rows.proofs.CaseLaws.{by_test, without_first, only}
use Rattle.wrap_rows.proofs.BlockLaws.{mark_cases, each-said, all-true}
use Rattle.wrap_rows.proofs.LinearLaws.{once, less_once}
use Rattle.wrap_rows.proofs.PutLaws.{put-before, put-first, put-second}
use Rattle.wrap_rows.proofs.ReadLaws.{same_tests, not_both, eq_yes, eq_said, mark_of-IsMark, mark_of-one, or_said, or_left, or_right}

pub own_rows : (select : Select) (first : ℕ) → names_own_rows (layout select first) ≡ true
own_rows select first = refl

-- ---- the clauses over plain numbers: the condition, the number and the arms, their marks

abbrev Clauses : (c x first_arm other_arm m mc my mn d e : ℤ) → Type 0
Clauses c x first_arm other_arm m mc my mn d e =
    ((c ≤ℤ pos 0) ⊎ ((d ≤ℤ pos 0) ⊎ ⊥)) × (((c ≤ℤ pos 0) ⊎ ((pos 0 ≤ℤ d) ⊎ ⊥)) × (((pos 1 ≤ℤ c) ⊎ ((e ≤ℤ pos 0) ⊎ ⊥)) × (((pos 1 ≤ℤ c) ⊎ ((pos 0 ≤ℤ e) ⊎ ⊥))
    × (((pos 1 ≤ℤ m) ⊎ ((mc ≤ℤ pos 0) ⊎ ⊥)) × (((c ≤ℤ pos 0) ⊎ ((pos 1 ≤ℤ m) ⊎ ((my ≤ℤ pos 0) ⊎ ⊥))) × (((pos 1 ≤ℤ c) ⊎ ((pos 1 ≤ℤ m) ⊎ ((mn ≤ℤ pos 0) ⊎ ⊥)))
    × (((m ≤ℤ pos 0) ⊎ ((pos 1 ≤ℤ mc) ⊎ ((c ≤ℤ pos 0) ⊎ ((pos 1 ≤ℤ my) ⊎ ⊥)))) × (((m ≤ℤ pos 0) ⊎ ((pos 1 ≤ℤ mc) ⊎ ((pos 1 ≤ℤ c) ⊎ ((pos 1 ≤ℤ mn) ⊎ ⊥)))) × Unit {0}))))))))

-- an arm that is chosen: its number, and its mark where the condition has none
pub record Chosen (x arm m mc ma : ℤ) : Type 0 where
  pub number : x ≡ arm
  pub poisoned : mc ≡ pos 1 → m ≡ pos 1
  pub raised : ma ≡ pos 1 → m ≡ pos 1
  pub closed : m ≡ pos 1 → (mc ≡ pos 1) ⊎ (ma ≡ pos 1)

chosen_yes : (c x first_arm other_arm m mc my mn d e : ℤ) → IsMark m → IsMark mc → IsMark my → d ≡ x +ℤ neg_ℤ first_arm → c ≡ pos 1 → Clauses c x first_arm other_arm m mc my mn d e → Chosen x first_arm m mc my
chosen_yes c x first_arm other_arm m mc my mn d e is_m is_mc is_my d_is one all =
    let below : d ≤ℤ pos 0 = only (without_first all.0 (λ low. omega (arith, ints, one, low))) in
    let above : pos 0 ≤ℤ d = only (without_first all.1.0 (λ low. omega (arith, ints, one, low))) in
    record {
      number = omega (arith, ints, below, above, d_is);
      poisoned = λ marked. elim all.1.1.1.1.0 [ inl up ↦ omega (arith, ints, up, is_m.1) | inr rest ↦ absurd (omega (arith, ints, only rest, marked)) ];
      raised = λ marked. elim (without_first all.1.1.1.1.1.0 (λ low. omega (arith, ints, one, low))) [ inl up ↦ omega (arith, ints, up, is_m.1) | inr rest ↦ absurd (omega (arith, ints, only rest, marked)) ];
      closed = λ marked. elim (without_first all.1.1.1.1.1.1.1.0 (λ low. omega (arith, ints, marked, low))) [
        | inl up ↦ inl (omega (arith, ints, up, is_mc.1))
        | inr rest ↦ inr (let up = only (without_first rest (λ low. omega (arith, ints, one, low))) in omega (arith, ints, up, is_my.1))
      ];
    }

chosen_no : (c x first_arm other_arm m mc my mn d e : ℤ) → IsMark m → IsMark mc → IsMark mn → e ≡ x +ℤ neg_ℤ other_arm → c ≡ pos 0 → Clauses c x first_arm other_arm m mc my mn d e → Chosen x other_arm m mc mn
chosen_no c x first_arm other_arm m mc my mn d e is_m is_mc is_mn e_is none all =
    let below : e ≤ℤ pos 0 = only (without_first all.1.1.0 (λ up. omega (arith, ints, none, up))) in
    let above : pos 0 ≤ℤ e = only (without_first all.1.1.1.0 (λ up. omega (arith, ints, none, up))) in
    record {
      number = omega (arith, ints, below, above, e_is);
      poisoned = λ marked. elim all.1.1.1.1.0 [ inl up ↦ omega (arith, ints, up, is_m.1) | inr rest ↦ absurd (omega (arith, ints, only rest, marked)) ];
      raised = λ marked. elim (without_first all.1.1.1.1.1.1.0 (λ up. omega (arith, ints, none, up))) [ inl up ↦ omega (arith, ints, up, is_m.1) | inr rest ↦ absurd (omega (arith, ints, only rest, marked)) ];
      closed = λ marked. elim (without_first all.1.1.1.1.1.1.1.1.0 (λ low. omega (arith, ints, marked, low))) [
        | inl up ↦ inl (omega (arith, ints, up, is_mc.1))
        | inr rest ↦ inr (let up = only (without_first rest (λ high. omega (arith, ints, none, high))) in omega (arith, ints, up, is_mn.1))
      ];
    }

-- what a chosen arm says of the value
chosen_value : (x arm m mc ma : ℤ) → int_eq mc (pos 1) ≡ false → Chosen x arm m mc ma → poison_if (int_eq m (pos 1)) (unsigned_abs x) ≡ poison_if (int_eq ma (pos 1)) (unsigned_abs arm)
chosen_value x arm m mc ma other_arm chosen =
    let same : int_eq m (pos 1) ≡ int_eq ma (pos 1) = same_tests (int_eq m (pos 1)) (int_eq ma (pos 1))
    (λ first_arm. elim (chosen.closed (eq_said m (pos 1) first_arm)) [ inl poisoned ↦ absurd (not_both (int_eq mc (pos 1)) (eq_yes mc (pos 1) poisoned) other_arm) | inr marked ↦ eq_yes ma (pos 1) marked ])
    (λ first_arm. eq_yes m (pos 1) (chosen.raised (eq_said ma (pos 1) first_arm))) in
    ap (λ test. poison_if test (unsigned_abs x)) same ∙ ap (λ z. poison_if (int_eq ma (pos 1)) (unsigned_abs z)) chosen.number

select_said : (c x first_arm other_arm m mc my mn : ℤ) → ((c ≡ pos 0) ⊎ (c ≡ pos 1)) → (c ≡ pos 1 → Chosen x first_arm m mc my) → (c ≡ pos 0 → Chosen x other_arm m mc mn)
    → poison_if (int_eq m (pos 1)) (unsigned_abs x) ≡ select_of (poison_if (int_eq mc (pos 1)) (unsigned_abs c)) (poison_if (int_eq my (pos 1)) (unsigned_abs first_arm)) (poison_if (int_eq mn (pos 1)) (unsigned_abs other_arm))
select_said c x first_arm other_arm m mc my mn cases first second =
    by_test (λ test. poison_if (int_eq m (pos 1)) (unsigned_abs x) ≡ select_of (poison_if test (unsigned_abs c)) (poison_if (int_eq my (pos 1)) (unsigned_abs first_arm)) (poison_if (int_eq mn (pos 1)) (unsigned_abs other_arm))) (int_eq mc (pos 1))
    (λ marked.
    let poisoned : m ≡ pos 1 = elim cases [ inl none ↦ (second none).poisoned (eq_said mc (pos 1) marked) | inr one ↦ (first one).poisoned (eq_said mc (pos 1) marked) ] in
    ap (λ test. poison_if test (unsigned_abs x)) (eq_yes m (pos 1) poisoned))
    (λ plain. elim cases [
      | inl none ↦
          chosen_value x other_arm m mc mn plain (second none)
          ∙ ap (λ z. cond (unsigned_abs z == 1) (poison_if (int_eq my (pos 1)) (unsigned_abs first_arm)) (poison_if (int_eq mn (pos 1)) (unsigned_abs other_arm))) (sym none)
      | inr one ↦
          chosen_value x first_arm m mc my plain (first one)
          ∙ ap (λ z. cond (unsigned_abs z == 1) (poison_if (int_eq my (pos 1)) (unsigned_abs first_arm)) (poison_if (int_eq mn (pos 1)) (unsigned_abs other_arm))) (sym one)
    ])

pub sound : (select : Select) (first : ℕ) (point : List ℤ) → IsAt select first → CanTake select point → AreIn first (ranges select) point → Holds (layout select first) point → value_at (vars select first) point ≡ meaning select point
sound select first point is_at takes in_ranges holds =
    let rows = (layout select first).rows in
    let c = number_at point select.cond.number in
    let x = number_at point first in
    let first_arm = number_at point select.yes.number in
    let other_arm = number_at point select.no.number in
    let m = number_at point (first + 1) in
    let mc = number_at point select.cond.mark in
    let my = number_at point select.yes.mark in
    let mn = number_at point select.no.mark in
    let d = term_value rows point (Row 0) in
    let e = term_value rows point (Row 1) in
    let all : Clauses c x first_arm other_arm m mc my mn d e = each-said (IsTrueAt rows point) (layout select first).clauses holds in
    let d_is : d ≡ x +ℤ neg_ℤ first_arm = omega (arith, ints, once x, less_once first_arm) in
    let e_is : e ≡ x +ℤ neg_ℤ other_arm = omega (arith, ints, once x, less_once other_arm) in
    select_said c x first_arm other_arm m mc my mn (mark_cases c (takes.cond.number.0, omega (arith, ints, takes.cond.number.1)))
    (λ one. chosen_yes c x first_arm other_arm m mc my mn d e in_ranges.1.0 takes.cond.mark takes.yes.mark d_is one all)
    (λ none. chosen_no c x first_arm other_arm m mc my mn d e in_ranges.1.0 takes.cond.mark takes.no.mark e_is none all)

-- ---- the clauses are true where the arm was chosen

clauses_yes : (c x first_arm other_arm m mc my mn d e : ℤ) → IsMark m → IsMark mc → IsMark my → d ≡ x +ℤ neg_ℤ first_arm → c ≡ pos 1 → Chosen x first_arm m mc my → Clauses c x first_arm other_arm m mc my mn d e
clauses_yes c x first_arm other_arm m mc my mn d e is_m is_mc is_my d_is one chosen =
    let up : pos 1 ≤ℤ c = omega (arith, ints, one) in (
      inr (inl (omega (arith, ints, d_is, chosen.number))),
      (
        inr (inl (omega (arith, ints, d_is, chosen.number))),
        (
          inl up,
          (
            inl up,
            (
              elim (mark_cases mc is_mc) [ inl plain ↦ inr (inl (omega (arith, ints, plain))) | inr marked ↦ inl (omega (arith, ints, chosen.poisoned marked)) ],
              (
                inr (elim (mark_cases my is_my) [ inl plain ↦ inr (inl (omega (arith, ints, plain))) | inr marked ↦ inl (omega (arith, ints, chosen.raised marked)) ]),
                (
                  inl up,
                  (
                    elim (mark_cases m is_m) [
                      | inl plain ↦ inl (omega (arith, ints, plain))
                      | inr marked ↦ inr (elim (chosen.closed marked) [ inl poisoned ↦ inl (omega (arith, ints, poisoned)) | inr bad ↦ inr (inr (inl (omega (arith, ints, bad)))) ])
                    ],
                    (inr (inr (inl up)), tt),
                  ),
                ),
              ),
            ),
          ),
        ),
      ),
    )

clauses_no : (c x first_arm other_arm m mc my mn d e : ℤ) → IsMark m → IsMark mc → IsMark mn → e ≡ x +ℤ neg_ℤ other_arm → c ≡ pos 0 → Chosen x other_arm m mc mn → Clauses c x first_arm other_arm m mc my mn d e
clauses_no c x first_arm other_arm m mc my mn d e is_m is_mc is_mn e_is none chosen =
    let low : c ≤ℤ pos 0 = omega (arith, ints, none) in (
      inl low,
      (
        inl low,
        (
          inr (inl (omega (arith, ints, e_is, chosen.number))),
          (
            inr (inl (omega (arith, ints, e_is, chosen.number))),
            (
              elim (mark_cases mc is_mc) [ inl plain ↦ inr (inl (omega (arith, ints, plain))) | inr marked ↦ inl (omega (arith, ints, chosen.poisoned marked)) ],
              (
                inl low,
                (
                  inr (elim (mark_cases mn is_mn) [ inl plain ↦ inr (inl (omega (arith, ints, plain))) | inr marked ↦ inl (omega (arith, ints, chosen.raised marked)) ]),
                  (
                    inr (inr (inl low)),
                    (
                      elim (mark_cases m is_m) [
                        | inl plain ↦ inl (omega (arith, ints, plain))
                        | inr marked ↦ inr (elim (chosen.closed marked) [ inl poisoned ↦ inl (omega (arith, ints, poisoned)) | inr bad ↦ inr (inr (inl (omega (arith, ints, bad)))) ])
                      ],
                      tt,
                    ),
                  ),
                ),
              ),
            ),
          ),
        ),
      ),
    )

-- number and mark as they are filled in
chosen_filled : (x arm m mc ma : ℤ) → x ≡ arm → m ≡ mark_of (int_eq mc (pos 1) || int_eq ma (pos 1)) → Chosen x arm m mc ma
chosen_filled x arm m mc ma number is =
    let test = int_eq mc (pos 1) || int_eq ma (pos 1) in
    record {
      number = number;
      poisoned = λ marked. is ∙ (mark_of-one test).1 (or_left (int_eq mc (pos 1)) (int_eq ma (pos 1)) (eq_yes mc (pos 1) marked));
      raised = λ marked. is ∙ (mark_of-one test).1 (or_right (int_eq mc (pos 1)) (int_eq ma (pos 1)) (eq_yes ma (pos 1) marked));
      closed = λ marked. elim (or_said (int_eq mc (pos 1)) (int_eq ma (pos 1)) ((mark_of-one test).0 (sym is ∙ marked))) [
        | inl poisoned ↦ inl (eq_said mc (pos 1) poisoned)
        | inr bad ↦ inr (eq_said ma (pos 1) bad)
      ];
    }

-- at the point that is filled in
abbrev ClausesAt : Select → ℕ → List ℤ → Type 0
ClausesAt select first new =
    Clauses (number_at new select.cond.number) (number_at new first) (number_at new select.yes.number) (number_at new select.no.number) (number_at new (first + 1)) (number_at new select.cond.mark) (number_at new select.yes.mark) (number_at new select.no.mark)
    (term_value (layout select first).rows new (Row 0)) (term_value (layout select first).rows new (Row 1))

pub record Filled (select : Select) (first : ℕ) (new : List ℤ) : Type 0 where
  pub condition : IsNumber 1 (number_at new select.cond.number)
  pub cond_mark : IsMark (number_at new select.cond.mark)
  pub yes_mark : IsMark (number_at new select.yes.mark)
  pub no_mark : IsMark (number_at new select.no.mark)
  pub mark : IsMark (number_at new (first + 1))
  pub number_is : number_at new first ≡ cond (is_first select new) (number_at new select.yes.number) (number_at new select.no.number)
  pub mark_is : number_at new (first + 1) ≡ mark_of (is_poison select new)

filled_true : (select : Select) (first : ℕ) (new : List ℤ) → Filled select first new → ClausesAt select first new
filled_true select first new filled =
    let c = number_at new select.cond.number in
    let x = number_at new first in
    let first_arm = number_at new select.yes.number in
    let other_arm = number_at new select.no.number in
    let m = number_at new (first + 1) in
    let mc = number_at new select.cond.mark in
    let my = number_at new select.yes.mark in
    let mn = number_at new select.no.mark in
    let d = term_value (layout select first).rows new (Row 0) in
    let e = term_value (layout select first).rows new (Row 1) in
    let d_is : d ≡ x +ℤ neg_ℤ first_arm = omega (arith, ints, once x, less_once first_arm) in
    let e_is : e ≡ x +ℤ neg_ℤ other_arm = omega (arith, ints, once x, less_once other_arm) in
    elim (mark_cases c (filled.condition.0, omega (arith, ints, filled.condition.1))) as (λ _. ClausesAt select first new) [
      | inl none ↦
          let test : is_first select new ≡ false = ap (λ z. int_eq z (pos 1)) none in
          clauses_no c x first_arm other_arm m mc my mn d e filled.mark filled.cond_mark filled.no_mark e_is none
          (chosen_filled x other_arm m mc mn (filled.number_is ∙ ap (λ t. cond t first_arm other_arm) test) (filled.mark_is ∙ ap (λ t. mark_of (is_marked select.cond new || cond t (is_marked select.yes new) (is_marked select.no new))) test))
      | inr one ↦
          let test : is_first select new ≡ true = ap (λ z. int_eq z (pos 1)) one in
          clauses_yes c x first_arm other_arm m mc my mn d e filled.mark filled.cond_mark filled.yes_mark d_is one
          (chosen_filled x first_arm m mc my (filled.number_is ∙ ap (λ t. cond t first_arm other_arm) test) (filled.mark_is ∙ ap (λ t. mark_of (is_marked select.cond new || cond t (is_marked select.yes new) (is_marked select.no new))) test))
    ]

number_in : (width : ℕ) (test : Bool) (first_arm other_arm : ℤ) → IsNumber width first_arm → IsNumber width other_arm → IsNumber width (cond test first_arm other_arm)
number_in width true first_arm other_arm is_yes is_no = is_yes
number_in width false first_arm other_arm is_yes is_no = is_no

pub complete : (select : Select) (first : ℕ) (point : List ℤ) → IsAt select first → CanTake select point → first + length (ranges select) ≤ length point → AreIn first (ranges select) (put_from first (numbers select point) point) × Holds (layout select first) (put_from first (numbers select point) point)
complete select first point is_at takes within =
    let new = put_from first (numbers select point) point in
    let before = λ (var : ℕ) (is_before : var < first). put-before first (numbers select point) point var is_before in
    let c = before select.cond.number is_at.cond in
    let mc = before select.cond.mark is_at.cond_mark in
    let first_arm = before select.yes.number is_at.yes in
    let my = before select.yes.mark is_at.yes_mark in
    let other_arm = before select.no.number is_at.no in
    let mn = before select.no.mark is_at.no_mark in
    let chosen = cond (is_first select point) (number_at point select.yes.number) (number_at point select.no.number) in
    let x : number_at new first ≡ chosen = put-first first chosen (mark_of (is_poison select point) ∷ []) point (omega arith) in
    let m : number_at new (first + 1) ≡ mark_of (is_poison select point) = put-second first chosen (mark_of (is_poison select point)) [] point (omega arith) in
    let same_first : is_first select point ≡ is_first select new = ap (λ z. int_eq z (pos 1)) (sym c) in
    let same_cond : is_marked select.cond point ≡ is_marked select.cond new = ap (λ z. int_eq z (pos 1)) (sym mc) in
    let same_yes : is_marked select.yes point ≡ is_marked select.yes new = ap (λ z. int_eq z (pos 1)) (sym my) in
    let same_no : is_marked select.no point ≡ is_marked select.no new = ap (λ z. int_eq z (pos 1)) (sym mn) in
    let chosen_is : chosen ≡ cond (is_first select new) (number_at new select.yes.number) (number_at new select.no.number) =
    ap (λ t. cond t (number_at point select.yes.number) (number_at point select.no.number)) same_first
    ∙ ap (λ z. cond (is_first select new) z (number_at point select.no.number)) (sym first_arm)
    ∙ ap (λ z. cond (is_first select new) (number_at new select.yes.number) z) (sym other_arm) in
    let poison_is : is_poison select point ≡ is_poison select new =
    ap (λ t. t || cond (is_first select point) (is_marked select.yes point) (is_marked select.no point)) same_cond
    ∙ ap (λ t. is_marked select.cond new || cond t (is_marked select.yes point) (is_marked select.no point)) same_first
    ∙ ap (λ t. is_marked select.cond new || cond (is_first select new) t (is_marked select.no point)) same_yes
    ∙ ap (λ t. is_marked select.cond new || cond (is_first select new) (is_marked select.yes new) t) same_no in
    let is_mark : IsMark (number_at new (first + 1)) = subst IsMark (sym m) (mark_of-IsMark (is_poison select point)) in
    let is_number : IsNumber select.width (number_at new first) = subst (IsNumber select.width) (sym x) (number_in select.width (is_first select point) (number_at point select.yes.number) (number_at point select.no.number) takes.yes.number takes.no.number) in
    let filled : Filled select first new = record {
      condition = subst (IsNumber 1) (sym c) takes.cond.number;
      cond_mark = subst IsMark (sym mc) takes.cond.mark;
      yes_mark = subst IsMark (sym my) takes.yes.mark;
      no_mark = subst IsMark (sym mn) takes.no.mark;
      mark = is_mark;
      number_is = x ∙ chosen_is;
      mark_is = m ∙ ap mark_of poison_is;
    } in (
      ((is_number.0, omega (arith, ints, is_number.1)), (is_mark, tt)),
      all-true (IsTrueAt (layout select first).rows new) (layout select first).clauses (filled_true select first new filled),
    )
