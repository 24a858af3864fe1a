-- Sums of marks: where they add up to 1, exactly one of them is 1.
use Rattle.std.proofs.Common.{◌≡◌, ⊎_elim, ℤ, pos, ◌≤ℤ◌, List, [], ◌∷◌, refl, sym, ◌∙◌, ap, subst, arith}
use Rattle.std.specs.List.{Contains}
use Rattle.std.proofs.lemmas.Int.{ints}
use Rattle.mix_system.specs.Sum.{int_sum_by}
use Rattle.wrap_rows.specs.Vars.{IsMark}
use Rattle.wrap_rows.proofs.BlockLaws.{mark_cases}
use Rattle.ll_flow.proofs.PlaceLaws.{no_item, cons_cases}
use Rattle.ir_runs.proofs.MemberLaws.{in_here, in_there}

abbrev pub AreMarked : {X : Type 0} → (X → ℤ) → List X → Type 0
AreMarked {X} f xs = (x : X) → Contains xs x → IsMark (f x)

-- the one that is 1
pub record IsOnly {X : Type 0} (f : X → ℤ) (xs : List X) (x : X) : Type 0 where
  pub there : Contains xs x
  pub one : f x ≡ pos 1
  pub only : (other : X) → Contains xs other → f other ≡ pos 1 → other ≡ x

-- none stands twice
abbrev pub AreApart : {X : Type 0} → List X → Type 0
AreApart [] = Unit {0}
AreApart (x ∷ xs) = ¬ Contains xs x × AreApart xs

module _ {X : Type 0} (f : X → ℤ) where
  rest_marked : (x : X) (xs : List X) → AreMarked f (x ∷ xs) → AreMarked f xs
  rest_marked x xs are y there = are y (in_there x y xs there)

  pub sum_low : (xs : List X) → AreMarked f xs → pos 0 ≤ℤ int_sum_by f xs
  sum_low [] are = omega (arith, ints)
  sum_low (x ∷ xs) are = omega (arith, ints, sum_low xs (rest_marked x xs are), (are x (in_here x xs)).0)

  -- each is at most the sum
  pub one_most : (xs : List X) (x : X) → AreMarked f xs → Contains xs x → f x ≤ℤ int_sum_by f xs
  one_most [] x are there = absurd (no_item x there)
  one_most (y ∷ xs) x are there =
      ⊎_elim (λ same. let is : f y ≡ f x = ap f same in omega (arith, ints, is, sum_low xs (rest_marked y xs are)))
      (λ later. omega (arith, ints, (are y (in_here y xs)).0, one_most xs x (rest_marked y xs are) later)) (cons_cases y xs x there)

  pub none_of : (xs : List X) → AreMarked f xs → int_sum_by f xs ≡ pos 0 → (x : X) → Contains xs x → f x ≡ pos 0
  none_of xs are zero x there = omega (arith, ints, one_most xs x are there, (are x there).0, zero)

  pub only_of : (xs : List X) → AreMarked f xs → int_sum_by f xs ≡ pos 1 → (x : X) × IsOnly f xs x
  only_of [] are is = absurd (omega (arith, ints, is))
  only_of (y ∷ xs) are is =
      let rest = rest_marked y xs are in
      ⊎_elim
      (λ low.
      let later = only_of xs rest (omega (arith, ints, is, low)) in (
        later.0,
        record {
          there = in_there y later.0 xs later.1.there;
          one = later.1.one;
          only = λ other there one. ⊎_elim (λ same. let both : f y ≡ f other = ap f same in absurd (omega (arith, ints, both, low, one))) (λ behind. later.1.only other behind one) (cons_cases y xs other there);
        },
      ))
      (λ high.
      let none : int_sum_by f xs ≡ pos 0 = omega (arith, ints, is, high) in (
        y,
        record {
          there = in_here y xs;
          one = high;
          only = λ other there one. ⊎_elim (λ same. sym same) (λ behind. let off = none_of xs rest none other behind in absurd (omega (arith, ints, off, one))) (cons_cases y xs other there);
        },
      ))
      (mark_cases (f y) (are y (in_here y xs)))

  -- ---- the other way round

  pub sum_none : (xs : List X) → ((x : X) → Contains xs x → f x ≡ pos 0) → int_sum_by f xs ≡ pos 0
  sum_none [] none = refl
  sum_none (x ∷ xs) none = omega (arith, ints, none x (in_here x xs), sum_none xs (λ y there. none y (in_there x y xs there)))

  pub sum_only : (xs : List X) (x : X) → AreApart xs → AreMarked f xs → IsOnly f xs x → int_sum_by f xs ≡ pos 1
  sum_only [] x apart are is = absurd (no_item x is.there)
  sum_only (y ∷ xs) x apart are is =
      let rest = rest_marked y xs are in
      ⊎_elim
      (λ same.
      let one : f y ≡ pos 1 = ap f same ∙ is.one in
      let none = sum_none xs (λ other there. ⊎_elim (λ low. low) (λ high. absurd (apart.0 (subst (λ (z : X). Contains xs z) (is.only other (in_there y other xs there) high ∙ sym same) there))) (mark_cases (f other) (rest other there))) in
      omega (arith, ints, one, none))
      (λ later.
      let off : f y ≡ pos 0 = ⊎_elim (λ low. low) (λ high. absurd (apart.0 (subst (λ (z : X). Contains xs z) (sym (is.only y (in_here y xs) high)) later))) (mark_cases (f y) (are y (in_here y xs))) in
      let only : IsOnly f xs x = record { there = later; one = is.one; only = λ other there. is.only other (in_there y other xs there) } in
      omega (arith, ints, off, sum_only xs x apart.1 rest only))
      (cons_cases y xs x is.there)
