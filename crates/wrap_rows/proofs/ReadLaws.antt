-- What number and mark stand for, from what the clauses say of them.
use Rattle.std.proofs.Common.{◌≡◌, ℕ, Bool, true, false, cond, ◌||◌, ◌&&◌, ℤ, pos, ◌<ℤ◌, ◌≤ℤ◌, ◌⊎◌, [], ◌∷◌, refl, sym, ap, ◌∙◌, inl, inr, arith}
use Rattle.std.specs.Prelude.{◌↔◌, int_lt, int_le, unsigned_abs}
use Rattle.std.specs.Ordering.{int_eq}
use Rattle.std.proofs.lemmas.Int.{ints, by_lt_z}
use Rattle.std.proofs.lemmas.Bool.Decides.{Decides-int_eq, not_from_Decides}
use Rattle.ir_meaning.specs.declared.value.Val.{Val}
use Rattle.ir_meaning.specs.Value.{poison_if, on_number, on_numbers}
use Rattle.wrap_rows.specs.Vars.{IsMark}
use Rattle.wrap_rows.specs.Piece.{mark_of}
use Rattle.wrap_rows.proofs.CaseLaws.{by_test, Some_of}

-- ---- tests

pub same_tests : (a b : Bool) → (a ≡ true → b ≡ true) → (b ≡ true → a ≡ true) → a ≡ b
same_tests true true forth back = refl
same_tests true false forth back = sym (forth refl)
same_tests false true forth back = back refl
same_tests false false forth back = refl

pub not_both : (a : Bool) → a ≡ true → a ≡ false → ⊥
not_both a passes fails = cc

pub eq_yes : (x y : ℤ) → x ≡ y → int_eq x y ≡ true
eq_yes x y same =
    by_test (λ test. test ≡ true) (int_eq x y) (λ passes. refl) (λ fails. absurd (not_from_Decides (int_eq x y) (Decides-int_eq x y) fails same))

pub eq_said : (x y : ℤ) → int_eq x y ≡ true → x ≡ y
eq_said x y passes = (Decides-int_eq x y).0 passes

pub le_yes : (x y : ℤ) → x ≤ℤ y → int_le x y ≡ true
le_yes x y below = grind (arith, ints)

pub le_no : (x y : ℤ) → y <ℤ x → int_le x y ≡ false
le_no x y above = grind (arith, ints)

pub le_said : (x y : ℤ) → int_le x y ≡ true → x ≤ℤ y
le_said x y passes = by_lt_z y x (λ above. absurd (not_both (int_le x y) passes (le_no x y above))) (λ below. below)

pub lt_yes : (x y : ℤ) → x <ℤ y → int_lt x y ≡ true
lt_yes x y below = grind (arith, ints)

pub lt_no : (x y : ℤ) → y ≤ℤ x → int_lt x y ≡ false
lt_no x y above = grind (arith, ints)

pub lt_said : (x y : ℤ) → int_lt x y ≡ true → x <ℤ y
lt_said x y passes = by_lt_z x y (λ below. below) (λ above. absurd (not_both (int_lt x y) passes (lt_no x y above)))

-- ---- marks that the code gives

pub mark_of-IsMark : (test : Bool) → IsMark (mark_of test)
mark_of-IsMark true = (omega (arith, ints), omega (arith, ints))
mark_of-IsMark false = (omega (arith, ints), omega (arith, ints))

pub mark_of-one : (test : Bool) → mark_of test ≡ pos 1 ↔ test ≡ true
mark_of-one true = (λ one. refl, λ passes. refl)
mark_of-one false = (λ one. absurd (omega (arith, ints, one)), λ passes. absurd (not_both false passes refl))

pub or_said : (a b : Bool) → (a || b) ≡ true → (a ≡ true) ⊎ (b ≡ true)
or_said true b passes = inl refl
or_said false b passes = inr passes

pub or_left : (a b : Bool) → a ≡ true → (a || b) ≡ true
or_left true b passes = refl
or_left false b passes = absurd (not_both false passes refl)

pub or_right : (a b : Bool) → b ≡ true → (a || b) ≡ true
or_right true b passes = refl
or_right false b passes = passes

-- ---- literals that a flag lists

pub flag_lists : {X : Type 0} (P : X → Type 0) (flag test : Bool) (lit : X) → (P lit ↔ test ≡ true) → (Some_of P (cond flag (lit ∷ []) []) ↔ (flag && test) ≡ true)
flag_lists P true test lit same = (λ some. elim some [ inl here ↦ same.0 here | inr none ↦ elim none [ ] ], λ passes. inl (same.1 passes))
flag_lists P false test lit same = (λ some. elim some [ ], λ passes. absurd (not_both false passes refl))

-- ---- an operation of one number

pub reads_one : (f : ℕ → Val) (x a m ma : ℤ) (barred : Bool) → (m ≡ pos 1 ↔ ((ma ≡ pos 1) ⊎ (barred ≡ true))) → f (unsigned_abs a) ≡ poison_if barred (unsigned_abs x) → poison_if (int_eq m (pos 1)) (unsigned_abs x) ≡ on_number f (poison_if (int_eq ma (pos 1)) (unsigned_abs a))
reads_one f x a m ma barred marked means =
    by_test (λ test. poison_if (int_eq m (pos 1)) (unsigned_abs x) ≡ on_number f (poison_if test (unsigned_abs a))) (int_eq ma (pos 1))
    (λ passes. ap (λ test. poison_if test (unsigned_abs x)) (eq_yes m (pos 1) (marked.1 (inl (eq_said ma (pos 1) passes)))))
    (λ fails.
    let same : int_eq m (pos 1) ≡ barred = same_tests (int_eq m (pos 1)) barred
    (λ passes. elim (marked.0 (eq_said m (pos 1) passes)) [ inl poisoned ↦ absurd (not_both (int_eq ma (pos 1)) (eq_yes ma (pos 1) poisoned) fails) | inr bars ↦ bars ])
    (λ bars. eq_yes m (pos 1) (marked.1 (inr bars))) in
    ap (λ test. poison_if test (unsigned_abs x)) same ∙ sym means)

-- ---- an operation of two numbers

pub reads_two : (f : ℕ → ℕ → Val) (x a b m ma mb : ℤ) (barred : Bool) → (m ≡ pos 1 ↔ ((ma ≡ pos 1) ⊎ ((mb ≡ pos 1) ⊎ (barred ≡ true)))) → f (unsigned_abs a) (unsigned_abs b) ≡ poison_if barred (unsigned_abs x)
    → poison_if (int_eq m (pos 1)) (unsigned_abs x) ≡ on_numbers f (poison_if (int_eq ma (pos 1)) (unsigned_abs a)) (poison_if (int_eq mb (pos 1)) (unsigned_abs b))
reads_two f x a b m ma mb barred marked means =
    by_test (λ test. poison_if (int_eq m (pos 1)) (unsigned_abs x) ≡ on_numbers f (poison_if test (unsigned_abs a)) (poison_if (int_eq mb (pos 1)) (unsigned_abs b))) (int_eq ma (pos 1))
    (λ passes. ap (λ test. poison_if test (unsigned_abs x)) (eq_yes m (pos 1) (marked.1 (inl (eq_said ma (pos 1) passes)))))
    (λ fails. by_test (λ test. poison_if (int_eq m (pos 1)) (unsigned_abs x) ≡ on_numbers f (poison_if false (unsigned_abs a)) (poison_if test (unsigned_abs b))) (int_eq mb (pos 1))
    (λ passes. ap (λ test. poison_if test (unsigned_abs x)) (eq_yes m (pos 1) (marked.1 (inr (inl (eq_said mb (pos 1) passes))))))
    (λ other_fails. ap (λ test. poison_if test (unsigned_abs x)) (same fails other_fails) ∙ sym means))
  where
    same : int_eq ma (pos 1) ≡ false → int_eq mb (pos 1) ≡ false → int_eq m (pos 1) ≡ barred
    same fails other_fails =
        same_tests (int_eq m (pos 1)) barred
        (λ passes. elim (marked.0 (eq_said m (pos 1) passes)) [
          | inl poisoned ↦ absurd (not_both (int_eq ma (pos 1)) (eq_yes ma (pos 1) poisoned) fails)
          | inr rest ↦ elim rest [
            | inl poisoned ↦ absurd (not_both (int_eq mb (pos 1)) (eq_yes mb (pos 1) poisoned) other_fails)
            | inr bars ↦ bars
          ]
        ])
        (λ bars. eq_yes m (pos 1) (marked.1 (inr (inr bars))))
