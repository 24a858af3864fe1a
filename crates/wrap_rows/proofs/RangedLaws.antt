-- The laws of the piece of a parameter with a range.
use Rattle.std.proofs.Common.{◌≡◌, ℕ, ◌+◌, ◌≤◌, Bool, true, false, cond, ◌||◌, ◌&&◌, nat_lt, ℤ, pos, ◌-ℤ◌, ◌<ℤ◌, ◌≤ℤ◌, ◌⊎◌, List, [], length, refl, sym, ap, ◌∙◌, inl, inr, subst, arith}
use Rattle.std.specs.Prelude.{int_lt, int_le, unsigned_abs, ◌++◌, map, Result, Ok, Err, OnOk}
use Rattle.std.proofs.lemmas.List.{append-nil}
use Rattle.mix_system.specs.System.{System}
use Rattle.wrap_rows.specs.Normal.{clause_of}
use Rattle.std.specs.Ordering.{int_eq}
use Rattle.std.proofs.lemmas.Int.{ints}
use Rattle.mix_system.specs.Fits.{IsTrueAt}
use Rattle.mix_system.specs.Row.{number_at}
use Rattle.ir_meaning.specs.Value.{poison_if}
use Rattle.wrap_rows.specs.declared.ranged.Ranged.{Ranged}
use Rattle.wrap_rows.specs.Layout.{Holds, clause_from}
use Rattle.wrap_rows.specs.Vars.{IsMark, value_at}
use Rattle.wrap_rows.specs.Piece.{Lays, put_from, AreIn, names_own_rows, mark_of}
use Rattle.wrap_rows.specs.Ranged.{IsAt, ranges, between_clauses, around_clauses, clauses, layout, vars, is_outside, CanTake, numbers, meaning}
use Rattle.wrap_rows.proofs.CaseLaws.{by_test, Each, Some_of, without_first, only}
use Rattle.wrap_rows.proofs.BlockLaws.{each-said, all-true}
use Rattle.wrap_rows.proofs.PutLaws.{put-before, put-first}
use Rattle.wrap_rows.proofs.ReadLaws.{same_tests, not_both, eq_yes, eq_said, le_yes, le_said, lt_yes, lt_said, mark_of-IsMark, mark_of-one, or_said, or_left, or_right}

pub own_rows : (ranged : Ranged) (first : ℕ) → names_own_rows (layout ranged first) ≡ true
own_rows ranged first =
    by_test (λ test. names_own_rows (record { rows = []; clauses = cond test (between_clauses ranged.number ranged.low ranged.high first) (around_clauses ranged.number ranged.low ranged.high first) }) ≡ true) (nat_lt ranged.low ranged.high)
    (λ below. refl) (λ above. refl)

and_said : (a b : Bool) → (a && b) ≡ true → (a ≡ true) × (b ≡ true)
and_said true b both = (refl, both)
and_said false b both = absurd (not_both false both refl)

and_true : (a b : Bool) → a ≡ true → b ≡ true → (a && b) ≡ true
and_true a b left right = rw (left, right) refl

-- ---- the clauses over plain numbers

abbrev Between : (m x : ℤ) (low high : ℕ) → Type 0
Between m x low high =
    ((m ≤ℤ pos 0) ⊎ ((x ≤ℤ (pos low -ℤ pos 1)) ⊎ ((pos high ≤ℤ x) ⊎ ⊥))) × (((pos 1 ≤ℤ m) ⊎ ((pos low ≤ℤ x) ⊎ ⊥)) × (((pos 1 ≤ℤ m) ⊎ ((x ≤ℤ (pos high -ℤ pos 1)) ⊎ ⊥)) × Unit {0}))

abbrev Around : (m x : ℤ) (low high : ℕ) → Type 0
Around m x low high =
    ((pos 1 ≤ℤ m) ⊎ ((pos low ≤ℤ x) ⊎ ((x ≤ℤ (pos high -ℤ pos 1)) ⊎ ⊥))) × (((m ≤ℤ pos 0) ⊎ ((x ≤ℤ (pos low -ℤ pos 1)) ⊎ ⊥)) × (((m ≤ℤ pos 0) ⊎ ((pos high ≤ℤ x) ⊎ ⊥)) × Unit {0}))

between_said : (m x : ℤ) (low high : ℕ) → IsMark m → Between m x low high → int_eq m (pos 1) ≡ (int_lt x (pos low) || int_le (pos high) x)
between_said m x low high is all =
    same_tests (int_eq m (pos 1)) (int_lt x (pos low) || int_le (pos high) x)
    (λ marked.
    let one = eq_said m (pos 1) marked in
    elim (without_first all.0 (λ none. omega (arith, ints, one, none))) [
      | inl below ↦ or_left (int_lt x (pos low)) (int_le (pos high) x) (lt_yes x (pos low) (omega (arith, ints, below)))
      | inr rest ↦ or_right (int_lt x (pos low)) (int_le (pos high) x) (le_yes (pos high) x (only rest))
    ])
    (λ outside. elim (or_said (int_lt x (pos low)) (int_le (pos high) x) outside) [
      | inl below ↦ eq_yes m (pos 1) (elim all.1.0 [ inl up ↦ omega (arith, ints, up, is.1) | inr rest ↦ absurd (omega (arith, ints, lt_said x (pos low) below, only rest)) ])
      | inr above ↦ eq_yes m (pos 1) (elim all.1.1.0 [ inl up ↦ omega (arith, ints, up, is.1) | inr rest ↦ absurd (omega (arith, ints, le_said (pos high) x above, only rest)) ])
    ])

around_said : (m x : ℤ) (low high : ℕ) → IsMark m → Around m x low high → int_eq m (pos 1) ≡ (int_lt x (pos low) && int_le (pos high) x)
around_said m x low high is all =
    same_tests (int_eq m (pos 1)) (int_lt x (pos low) && int_le (pos high) x)
    (λ marked.
    let one = eq_said m (pos 1) marked in
    let below = only (without_first all.1.0 (λ none. omega (arith, ints, one, none))) in
    let above = only (without_first all.1.1.0 (λ none. omega (arith, ints, one, none))) in
    and_true (int_lt x (pos low)) (int_le (pos high) x) (lt_yes x (pos low) (omega (arith, ints, below))) (le_yes (pos high) x above))
    (λ outside.
    let both = and_said (int_lt x (pos low)) (int_le (pos high) x) outside in
    eq_yes m (pos 1) (elim all.0 [
      | inl up ↦ omega (arith, ints, up, is.1)
      | inr rest ↦ absurd (elim rest [ inl low_one ↦ omega (arith, ints, lt_said x (pos low) both.0, low_one) | inr last ↦ omega (arith, ints, le_said (pos high) x both.1, only last) ])
    ]))

between_true : (m x : ℤ) (low high : ℕ) → m ≡ mark_of (int_lt x (pos low) || int_le (pos high) x) → Between m x low high
between_true m x low high is =
    let below = int_lt x (pos low) in
    let above = int_le (pos high) x in
    by_test (λ test. below ≡ test → Between m x low high) below
    (λ low_one is_low. (inr (inl (omega (arith, ints, lt_said x (pos low) low_one))), (inl (omega (arith, ints, marked low_one)), (inl (omega (arith, ints, marked low_one)), tt))))
    (λ not_low is_low.
    let from_low : pos low ≤ℤ x = at_least_low not_low in
    by_test (λ test. above ≡ test → Between m x low high) above
    (λ high_one is_high. (inr (inr (inl (le_said (pos high) x high_one))), (inl (omega (arith, ints, raised high_one)), (inl (omega (arith, ints, raised high_one)), tt))))
    (λ not_high is_high. (inl (omega (arith, ints, plain not_low not_high)), (inr (inl from_low), (inr (inl (omega (arith, ints, below_high not_high))), tt))))
    refl)
    refl
  where
    marked : int_lt x (pos low) ≡ true → m ≡ pos 1
    marked low_one = is ∙ (mark_of-one (int_lt x (pos low) || int_le (pos high) x)).1 (or_left (int_lt x (pos low)) (int_le (pos high) x) low_one)

    raised : int_le (pos high) x ≡ true → m ≡ pos 1
    raised high_one = is ∙ (mark_of-one (int_lt x (pos low) || int_le (pos high) x)).1 (or_right (int_lt x (pos low)) (int_le (pos high) x) high_one)

    plain : int_lt x (pos low) ≡ false → int_le (pos high) x ≡ false → m ≡ pos 0
    plain not_low not_high = is ∙ ap (λ t. mark_of (t || int_le (pos high) x)) not_low ∙ ap mark_of not_high

    at_least_low : int_lt x (pos low) ≡ false → pos low ≤ℤ x
    at_least_low not_low = grind (arith, ints)

    below_high : int_le (pos high) x ≡ false → x <ℤ pos high
    below_high not_high = grind (arith, ints)

around_true : (m x : ℤ) (low high : ℕ) → m ≡ mark_of (int_lt x (pos low) && int_le (pos high) x) → Around m x low high
around_true m x low high is =
    let below = int_lt x (pos low) in
    let above = int_le (pos high) x in
    by_test (λ test. below ≡ test → Around m x low high) below
    (λ low_one is_low. by_test (λ test. above ≡ test → Around m x low high) above
    (λ high_one is_high. (inl (omega (arith, ints, marked low_one high_one)), (inr (inl (omega (arith, ints, lt_said x (pos low) low_one))), (inr (inl (le_said (pos high) x high_one)), tt))))
    (λ not_high is_high. (inr (inr (inl (omega (arith, ints, below_high not_high)))), (inl (omega (arith, ints, in_low low_one not_high)), (inl (omega (arith, ints, in_low low_one not_high)), tt))))
    refl)
    (λ not_low is_low. (inr (inl (at_least_low not_low)), (inl (omega (arith, ints, from_low not_low)), (inl (omega (arith, ints, from_low not_low)), tt))))
    refl
  where
    marked : int_lt x (pos low) ≡ true → int_le (pos high) x ≡ true → m ≡ pos 1
    marked low_one high_one = is ∙ (mark_of-one (int_lt x (pos low) && int_le (pos high) x)).1 (and_true (int_lt x (pos low)) (int_le (pos high) x) low_one high_one)

    in_low : int_lt x (pos low) ≡ true → int_le (pos high) x ≡ false → m ≡ pos 0
    in_low low_one not_high = is ∙ ap (λ t. mark_of (t && int_le (pos high) x)) low_one ∙ ap mark_of not_high

    from_low : int_lt x (pos low) ≡ false → m ≡ pos 0
    from_low not_low = is ∙ ap (λ t. mark_of (t && int_le (pos high) x)) not_low

    at_least_low : int_lt x (pos low) ≡ false → pos low ≤ℤ x
    at_least_low not_low = grind (arith, ints)

    below_high : int_le (pos high) x ≡ false → x <ℤ pos high
    below_high not_high = grind (arith, ints)

-- ---- by the order of the bounds

pub sound : (ranged : Ranged) (first : ℕ) (point : List ℤ) → IsAt ranged first → CanTake ranged point → AreIn first (ranges ranged) point → Holds (layout ranged first) point → value_at (vars ranged first) point ≡ meaning ranged point
sound ranged first point is_at takes in_ranges holds =
    let x = number_at point ranged.number in
    let m = number_at point first in
    let each = each-said (IsTrueAt [] point) (clauses ranged first) holds in
    ap (λ test. poison_if test (unsigned_abs x)) (
    by_test (λ test. Each (Some_of (IsTrueAt [] point)) (cond test (between_clauses ranged.number ranged.low ranged.high first) (around_clauses ranged.number ranged.low ranged.high first)) → int_eq m (pos 1) ≡ cond test (int_lt x (pos ranged.low) || int_le (pos ranged.high) x) (int_lt x (pos ranged.low) && int_le (pos ranged.high) x)) (nat_lt ranged.low ranged.high)
    (λ below all. between_said m x ranged.low ranged.high in_ranges.0 all)
    (λ above all. around_said m x ranged.low ranged.high in_ranges.0 all)
    each
    )

pub complete : (ranged : Ranged) (first : ℕ) (point : List ℤ) → IsAt ranged first → CanTake ranged point → first + length (ranges ranged) ≤ length point → AreIn first (ranges ranged) (put_from first (numbers ranged point) point) × Holds (layout ranged first) (put_from first (numbers ranged point) point)
complete ranged first point is_at takes within =
    let new = put_from first (numbers ranged point) point in
    let x = number_at new ranged.number in
    let kept : x ≡ number_at point ranged.number = put-before first (numbers ranged point) point ranged.number is_at.number in
    let m : number_at new first ≡ mark_of (is_outside ranged x) = put-first first (mark_of (is_outside ranged (number_at point ranged.number))) [] point (omega arith) ∙ ap (λ z. mark_of (is_outside ranged z)) (sym kept) in
    let is_mark : IsMark (number_at new first) = subst IsMark (sym m) (mark_of-IsMark (is_outside ranged x)) in
    let each = by_test (λ test. number_at new first ≡ mark_of (cond test (int_lt x (pos ranged.low) || int_le (pos ranged.high) x) (int_lt x (pos ranged.low) && int_le (pos ranged.high) x)) → Each (Some_of (IsTrueAt [] new)) (cond test (between_clauses ranged.number ranged.low ranged.high first) (around_clauses ranged.number ranged.low ranged.high first))) (nat_lt ranged.low ranged.high)
    (λ below is. between_true (number_at new first) x ranged.low ranged.high is)
    (λ above is. around_true (number_at new first) x ranged.low ranged.high is)
    m in
    ((is_mark, tt), all-true (IsTrueAt [] new) (clauses ranged first) each)

-- ---- what is laid, by the order of the bounds

pub lays_between : (ranged : Ranged) (mark : ℕ) (old new : System) → nat_lt ranged.low ranged.high ≡ true → new ≡ record old { clauses = old.clauses ++ map clause_of (between_clauses ranged.number ranged.low ranged.high mark) } → Lays (layout ranged mark) old new
lays_between ranged mark old new test is =
    is
    ∙ ap (λ rows. record { ranges = old.ranges; rows = rows; clauses = old.clauses ++ map clause_of (between_clauses ranged.number ranged.low ranged.high mark) }) (sym (append-nil old.rows))
    ∙ ap (λ t. record { ranges = old.ranges; rows = old.rows ++ []; clauses = old.clauses ++ map (clause_from (length old.rows)) (cond t (between_clauses ranged.number ranged.low ranged.high mark) (around_clauses ranged.number ranged.low ranged.high mark)) }) (sym test)

pub lays_around : (ranged : Ranged) (mark : ℕ) (old new : System) → nat_lt ranged.low ranged.high ≡ false → new ≡ record old { clauses = old.clauses ++ map clause_of (around_clauses ranged.number ranged.low ranged.high mark) } → Lays (layout ranged mark) old new
lays_around ranged mark old new test is =
    is
    ∙ ap (λ rows. record { ranges = old.ranges; rows = rows; clauses = old.clauses ++ map clause_of (around_clauses ranged.number ranged.low ranged.high mark) }) (sym (append-nil old.rows))
    ∙ ap (λ t. record { ranges = old.ranges; rows = old.rows ++ []; clauses = old.clauses ++ map (clause_from (length old.rows)) (cond t (between_clauses ranged.number ranged.low ranged.high mark) (around_clauses ranged.number ranged.low ranged.high mark)) }) (sym test)

pub on_ok : {A E : Type 0} {P Q : Type 0} (result : Result A E) → (P → Q) → OnOk result P → OnOk result Q
on_ok (Ok value) onward holds = onward holds
on_ok (Err error) onward holds = holds
