-- What lists have that are filtered or paired.
use Rattle.std.proofs.Common.{◌≡◌, ◌≤◌, ⊎_elim, Bool, true, List, [], ◌∷◌, length, sym, ◌∙◌, ap, subst, arith}
use Rattle.std.specs.Prelude.{zip}
use Rattle.std.specs.List.{Contains, filter}
use Rattle.std.proofs.lemmas.Bool.{true≢false, cond_both}
use Rattle.std.proofs.lemmas.List.Elements.{All-contains, All-contains_itself, All-filter, filter_passes}
use Rattle.ll_flow.proofs.PlaceLaws.{no_item, cons_cases}
use Rattle.ir_runs.proofs.MemberLaws.{in_here, in_there}

module _ {X : Type 0} (p : X → Bool) where
  pub kept : (xs : List X) (x : X) → Contains xs x → p x ≡ true → Contains (filter p xs) x
  kept [] x there passes = absurd (no_item x there)
  kept (y ∷ xs) x there passes =
      cond_both (p y) (y ∷ filter p xs) (filter p xs) (λ (list : List X). Contains list x)
      (λ _. ⊎_elim (λ same. subst (λ (z : X). Contains (y ∷ filter p xs) z) same (in_here y (filter p xs))) (λ later. in_there y x (filter p xs) (kept xs x later passes)) (cons_cases y xs x there))
      (λ fails. ⊎_elim (λ same. absurd (true≢false (sym passes ∙ ap p (sym same) ∙ fails))) (λ later. kept xs x later passes) (cons_cases y xs x there))

  pub passes_of : (xs : List X) (x : X) → Contains (filter p xs) x → p x ≡ true
  passes_of xs x there = All-contains (λ (y : X). p y ≡ true) (filter p xs) x (filter_passes p xs) there

  pub member_of : (xs : List X) (x : X) → Contains (filter p xs) x → Contains xs x
  member_of xs x there = All-contains (Contains xs) (filter p xs) x (All-filter p (Contains xs) xs (All-contains_itself xs)) there

-- ---- pairs

pub first_in : {X Y : Type 0} (xs : List X) (ys : List Y) (pair : X × Y) → Contains (zip xs ys) pair → Contains xs pair.0
first_in [] ys pair there = absurd (no_item pair there)
first_in (x ∷ xs) [] pair there = absurd (no_item pair there)
first_in {X = X} {Y = Y} (x ∷ xs) (y ∷ ys) pair there =
    ⊎_elim (λ same. subst (λ (z : X). Contains (x ∷ xs) z) (ap (λ (q : X × Y). q.0) same) (in_here x xs)) (λ later. in_there x pair.0 xs (first_in xs ys pair later)) (cons_cases (x, y) (zip xs ys) pair there)

pub second_in : {X Y : Type 0} (xs : List X) (ys : List Y) (pair : X × Y) → Contains (zip xs ys) pair → Contains ys pair.1
second_in [] ys pair there = absurd (no_item pair there)
second_in (x ∷ xs) [] pair there = absurd (no_item pair there)
second_in {X = X} {Y = Y} (x ∷ xs) (y ∷ ys) pair there =
    ⊎_elim (λ same. subst (λ (z : Y). Contains (y ∷ ys) z) (ap (λ (q : X × Y). q.1) same) (in_here y ys)) (λ later. in_there y pair.1 ys (second_in xs ys pair later)) (cons_cases (x, y) (zip xs ys) pair there)

-- a member of a list has a partner in another that isn't shorter
pub paired : {X Y : Type 0} (xs : List X) (ys : List Y) (x : X) → length xs ≤ length ys → Contains xs x → (y : Y) × Contains (zip xs ys) (x, y)
paired [] ys x few there = absurd (no_item x there)
paired (z ∷ xs) [] x few there = absurd (omega (arith, few))
paired {X = X} {Y = Y} (z ∷ xs) (y ∷ ys) x few there =
    ⊎_elim (λ same. let here : Contains ((z, y) ∷ zip xs ys) (x, y) = subst (λ (w : X). Contains ((z, y) ∷ zip xs ys) (w, y)) same (in_here (z, y) (zip xs ys)) in (y, here))
    (λ later. let found = paired xs ys x (omega (arith, few)) later in (found.0, in_there (z, y) (x, found.0) (zip xs ys) found.1)) (cons_cases z xs x there)
