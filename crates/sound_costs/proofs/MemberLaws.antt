-- What lists have that are kept, mapped, or counted.
use Rattle.std.proofs.Common.{◌≡◌, ◌<◌, ◌≤◌, ◌+◌, ◌-◌, ⊎_elim, ℕ, zero, suc, List, [], ◌∷◌, ◌++◌, get_or, map, Bool, true, refl, sym, ◌∙◌, ap, subst, arith}
use Rattle.std.specs.List.{All, AllPairs, Contains, filter, range_with_len}
use Rattle.std.proofs.lemmas.Bool.{true≢false, cond_both}
use Rattle.std.proofs.lemmas.List.{length-map, get_or-map}
use Rattle.std.proofs.lemmas.List.Elements.{All-contains, All-contains_itself, All-filter, filter_passes, Contains-get_or, Contains-append_cases}
use Rattle.std.proofs.lemmas.List.FromFn.{length-range_with_len, get_or-range_with_len}
use Rattle.std.proofs.lemmas.List.Kept.{AllPairs-cons}
use Rattle.ll_flow.proofs.PlaceLaws.{no_item, cons_cases}

module _ {X : Type 0} where
  pub first_of : (x : X) (xs : List X) → Contains (x ∷ xs) x
  first_of x xs = (0, omega arith, refl)

  pub later_of : (x y : X) (xs : List X) → Contains xs y → Contains (x ∷ xs) y
  later_of x y xs there = (suc there.0, omega (arith, there.1), there.2)

  -- what holds of each member
  pub all_of : (P : X → Type 0) (xs : List X) → ((x : X) → Contains xs x → P x) → All P xs
  all_of P xs each k d within = each (get_or xs k d) (Contains-get_or xs k d within)

  -- ---- members that pass a test

  pub kept : (p : X → Bool) (xs : List X) (x : X) → Contains xs x → p x ≡ true → Contains (filter p xs) x
  kept p [] x there passes = absurd (no_item x there)
  kept p (y ∷ xs) x there passes =
      cond_both (p y) (y ∷ filter p xs) (filter p xs) (λ (list : List X). Contains list x)
      (λ _. ⊎_elim (λ same. subst (λ (z : X). Contains (y ∷ filter p xs) z) same (first_of y (filter p xs))) (λ later. later_of y x (filter p xs) (kept p xs x later passes)) (cons_cases y xs x there))
      (λ fails. ⊎_elim (λ same. absurd (true≢false (sym passes ∙ ap p (sym same) ∙ fails))) (λ later. kept p xs x later passes) (cons_cases y xs x there))

  pub passes_of : (p : X → Bool) (xs : List X) (x : X) → Contains (filter p xs) x → p x ≡ true
  passes_of p xs x there = All-contains (λ (y : X). p y ≡ true) (filter p xs) x (filter_passes p xs) there

  pub member_of : (p : X → Bool) (xs : List X) (x : X) → Contains (filter p xs) x → Contains xs x
  member_of p xs x there = All-contains (Contains xs) (filter p xs) x (All-filter p (Contains xs) xs (All-contains_itself xs)) there

  -- ---- pairs of members

  -- each comes before those behind it, also where two lists are joined
  pub joined : (R : X → X → Type 0) (xs ys : List X) → AllPairs R xs → AllPairs R ys → ((x y : X) → Contains xs x → Contains ys y → R x y) → AllPairs R (xs ++ ys)
  joined R [] ys front back between = back
  joined R (x ∷ xs) ys front back between =
      let rest : AllPairs R xs = λ i j d below within. front (suc i) (suc j) d (omega (arith, below)) (omega (arith, within)) in
      let here : All (R x) xs = λ k d within. front 0 (suc k) d (omega arith) (omega (arith, within)) in
      AllPairs-cons R x (xs ++ ys)
      (all_of (R x) (xs ++ ys) (λ y there. ⊎_elim (λ in_front. All-contains (R x) xs y here in_front) (λ in_back. between x y (first_of x xs) in_back) (Contains-append_cases xs ys y there)))
      (joined R xs ys rest back (λ a b in_front in_back. between a b (later_of x a xs in_front) in_back))

-- ---- members of a map

pub mapped : {X Y : Type 0} (f : X → Y) (xs : List X) (x : X) → Contains xs x → Contains (map f xs) (f x)
mapped f xs x (k, within, is) = (k, omega (arith, within, length-map xs f), get_or-map f xs k x (f x) within ∙ ap f is)

pub unmapped : {X Y : Type 0} (f : X → Y) (xs : List X) (y : Y) → Contains (map f xs) y → (x : X) × Contains xs x × (f x ≡ y)
unmapped f [] y there = absurd (no_item y there)
unmapped f (x ∷ xs) y (zero, within, is) = (x, first_of x xs, is)
unmapped f (x ∷ xs) y (suc k, within, is) =
    let later = unmapped f xs y (k, omega (arith, within), is) in
    (later.0, later_of x later.0 xs later.1, later.2)

-- ---- numbers in a row

pub counted : (start count number : ℕ) → start ≤ number → number < start + count → Contains (range_with_len start count) number
counted start count number low high =
    let within : number - start < count = omega (arith, low, high) in
    let back : start + (number - start) ≡ number = omega (arith, low) in
    (number - start, omega (arith, within, length-range_with_len start count), get_or-range_with_len start count (number - start) number within ∙ back)

pub count_of : (start count number : ℕ) → Contains (range_with_len start count) number → (start ≤ number) × (number < start + count)
count_of start count number (k, within, is) =
    let low : k < count = omega (arith, within, length-range_with_len start count) in
    let same : start + k ≡ number = sym (get_or-range_with_len start count k number low) ∙ is in
    (omega (arith, same), omega (arith, same, low))
