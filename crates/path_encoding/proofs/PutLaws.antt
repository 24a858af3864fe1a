-- Marks that are written into a point.
use Rattle.std.proofs.Common.{◌≡◌, ◌≢◌, ◌<◌, ◌≤◌, ◌+◌, ⊎_elim, ℕ, zero, suc, ℤ, pos, Bool, true, false, List, [], ◌∷◌, ◌++◌, length, get_or, map, refl, sym, ◌∙◌, ap, subst, arith}
use Rattle.std.specs.Prelude.{◌↔◌, slice_set}
use Rattle.std.specs.List.{AllPairs, Contains}
use Rattle.std.proofs.Math.ListN.{length-set}
use Rattle.std.proofs.lemmas.Int.{ints}
use Rattle.std.proofs.lemmas.List.{get_or_default}
use Rattle.std.proofs.lemmas.List.Elements.{Contains-append_left, Contains-append_right}
use Rattle.mix_system.specs.Row.{number_at}
use Rattle.ll_flow.proofs.PlaceLaws.{no_item, cons_cases}
use Rattle.ir_runs.proofs.MemberLaws.{in_here, in_there, in_map}
use Rattle.wrap_rows.specs.Piece.{mark_of}
use Rattle.wrap_rows.specs.Vars.{IsMark}
use Rattle.wrap_rows.proofs.PutLaws.{set_here, set_other}
use Rattle.path_encoding.specs.Filled.{put_marks}
use Rattle.path_encoding.proofs.MarkSums.{AreApart}
use Rattle.path_encoding.proofs.PairLaws.{pairs_from, pairs_more, pairs_end}

-- ---- marks

pub mark_is : (test : Bool) → IsMark (mark_of test)
mark_is true = (omega (arith, ints), omega (arith, ints))
mark_is false = (omega (arith, ints), omega (arith, ints))

pub mark_one : (test : Bool) → mark_of test ≡ pos 1 → test ≡ true
mark_one true is = refl
mark_one false is = absurd (omega (arith, ints, is))

-- ---- lists in which none stands twice

pub apart_of : (xs : List ℕ) → AllPairs (λ x y. x ≢ y) xs → AreApart xs
apart_of [] pairs = tt
apart_of (x ∷ xs) pairs = (λ (k, low, is). pairs 0 (suc k) x (omega arith) (omega (arith, low)) (sym is), apart_of xs (λ i j d below low. pairs (suc i) (suc j) d (omega (arith, below)) (omega (arith, low))))

pub apart_left : (xs ys : List ℕ) → AreApart (xs ++ ys) → AreApart xs
apart_left [] ys apart = tt
apart_left (x ∷ xs) ys apart = (λ there. apart.0 (Contains-append_left xs ys x there), apart_left xs ys apart.1)

pub apart_right : (xs ys : List ℕ) → AreApart (xs ++ ys) → AreApart ys
apart_right [] ys apart = apart
apart_right (x ∷ xs) ys apart = apart_right xs ys apart.1

pub apart_both : (xs ys : List ℕ) → AreApart (xs ++ ys) → (x : ℕ) → Contains xs x → Contains ys x → ⊥
apart_both [] ys apart x there other = no_item x there
apart_both (first ∷ xs) ys apart x there other =
    ⊎_elim (λ same. apart.0 (subst (λ (n : ℕ). Contains (xs ++ ys) n) (sym same) (Contains-append_right xs ys x other))) (λ later. apart_both xs ys apart.1 x later other) (cons_cases first xs x there)

-- at different places stand different ones
pub apart_at : (xs : List ℕ) → AreApart xs → (i j d : ℕ) → i < j → j < length xs → get_or xs i d ≢ get_or xs j d
apart_at [] apart i j d below low same = absurd (omega (arith, low))
apart_at (x ∷ xs) apart zero zero d below low same = absurd (omega (arith, below))
apart_at (x ∷ xs) apart zero (suc j) d below low same = apart.0 (j, omega (arith, low), get_or_default xs j x d (omega (arith, low)) ∙ sym same)
apart_at (x ∷ xs) apart (suc i) zero d below low same = absurd (omega (arith, below))
apart_at (x ∷ xs) apart (suc i) (suc j) d below low same = apart_at xs apart.1 i j d (omega (arith, below)) (omega (arith, low)) same

-- ---- what is written

abbrev pub vars_of : {X : Type 0} → List (X × ℕ) → List ℕ
vars_of {X} pairs = map (λ (pair : X × ℕ). pair.1) pairs

module _ {X : Type 0} (test : X → Bool) where
  pub put_length : (pairs : List (X × ℕ)) (point : List ℤ) → length (put_marks test pairs point) ≡ length point
  put_length [] point = refl
  put_length (pair ∷ pairs) point = put_length pairs (slice_set point pair.1 (mark_of (test pair.0))) ∙ length-set point pair.1 (mark_of (test pair.0))

  -- what is no item's variable is kept
  pub put_other : (pairs : List (X × ℕ)) (point : List ℤ) (other : ℕ) → ¬ Contains (vars_of pairs) other → number_at (put_marks test pairs point) other ≡ number_at point other
  put_other [] point other never = refl
  put_other (pair ∷ pairs) point other never =
      let apart : other ≢ pair.1 = λ same. never (subst (λ (n : ℕ). Contains (vars_of (pair ∷ pairs)) n) (sym same) (in_here pair.1 (vars_of pairs))) in
      put_other pairs (slice_set point pair.1 (mark_of (test pair.0))) other (λ there. never (in_there pair.1 other (vars_of pairs) there)) ∙ set_other point pair.1 other (mark_of (test pair.0)) apart

  -- each item's variable is marked by its test
  pub put_there : (pairs : List (X × ℕ)) (point : List ℤ) → AreApart (vars_of pairs) → ((var : ℕ) → Contains (vars_of pairs) var → var < length point) → (pair : X × ℕ) → Contains pairs pair → number_at (put_marks test pairs point) pair.1 ≡ mark_of (test pair.0)
  put_there [] point apart known pair there = absurd (no_item pair there)
  put_there (first ∷ pairs) point apart known pair there =
      let now = slice_set point first.1 (mark_of (test first.0)) in
      let size = length-set point first.1 (mark_of (test first.0)) in
      ⊎_elim
      (λ same.
      let here : number_at (put_marks test pairs now) first.1 ≡ mark_of (test first.0) = put_other pairs now first.1 apart.0 ∙ set_here point first.1 (mark_of (test first.0)) (known first.1 (in_here first.1 (vars_of pairs))) in
      subst (λ (p : X × ℕ). number_at (put_marks test pairs now) p.1 ≡ mark_of (test p.0)) same here)
      (λ later. put_there pairs now apart.1 (λ var var_there. omega (arith, size, known var (in_there first.1 var (vars_of pairs) var_there))) pair later)
      (cons_cases first pairs pair there)

  -- ---- one by one

  module _ (xs : List X) (vars : List ℕ) (i : ℕ) (x : X) (now whole : List ℤ) where
    pub put_more : put_marks test (pairs_from xs vars i) now ≡ whole → i < length xs → i < length vars → put_marks test (pairs_from xs vars (i + 1)) (slice_set now (get_or vars i 0) (mark_of (test (get_or xs i x)))) ≡ whole
    put_more so_far low low_too = sym (ap (λ (pairs : List (X × ℕ)). put_marks test pairs now) (pairs_more xs vars i x 0 low low_too)) ∙ so_far

    pub put_all : put_marks test (pairs_from xs vars i) now ≡ whole → length xs ≤ i → now ≡ whole
    put_all so_far past = sym (ap (λ (pairs : List (X × ℕ)). put_marks test pairs now) (pairs_end xs vars i past)) ∙ so_far
