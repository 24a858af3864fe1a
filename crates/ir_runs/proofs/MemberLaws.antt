-- What mapped and joined lists contain.
use Rattle.std.proofs.Common.{◌≡◌, ◌⊎◌, inl, inr, zero, suc, List, [], ◌∷◌, ◌++◌, map, refl, sym, ap, subst, arith}
use Rattle.std.specs.Prelude.{Contains, flat_map}
use Rattle.std.proofs.lemmas.List.Elements.{Contains-append_left, Contains-append_right, Contains-append_cases}
use Rattle.ll_flow.proofs.PlaceLaws.{no_item, cons_cases}

pub in_here : {X : Type 0} (x : X) (xs : List X) → Contains (x ∷ xs) x
in_here x xs = (0, omega arith, refl)

pub in_there : {X : Type 0} (y x : X) (xs : List X) → Contains xs x → Contains (y ∷ xs) x
in_there y x xs (k, within, is) = (suc k, omega arith, is)

pub in_map : {X Y : Type 0} (f : X → Y) (xs : List X) (x : X) → Contains xs x → Contains (map f xs) (f x)
in_map f [] x there = absurd (no_item x there)
in_map f (first ∷ xs) x (zero, within, is) = (0, omega arith, ap f is)
in_map f (first ∷ xs) x (suc k, within, is) = in_there (f first) (f x) (map f xs) (in_map f xs x (k, omega arith, is))

pub map_in : {X Y : Type 0} (f : X → Y) (xs : List X) (y : Y) → Contains (map f xs) y → (x : X) × Contains xs x × (f x ≡ y)
map_in f [] y there = absurd (no_item y there)
map_in f (first ∷ xs) y (zero, within, is) = (first, in_here first xs, is)
map_in f (first ∷ xs) y (suc k, within, is) =
    let later = map_in f xs y (k, omega arith, is) in
    (later.0, in_there first later.0 xs later.1, later.2)

pub in_flat : {X Y : Type 0} (f : X → List Y) (xs : List X) (x : X) (y : Y) → Contains xs x → Contains (f x) y → Contains (flat_map f xs) y
in_flat f [] x y there here = absurd (no_item x there)
in_flat {X = X} {Y = Y} f (first ∷ xs) x y there here = by_cases (in_flat f xs x y) (cons_cases first xs x there)
  where
    by_cases : (Contains xs x → Contains (f x) y → Contains (flat_map f xs) y) → (first ≡ x) ⊎ Contains xs x → Contains (f first ++ flat_map f xs) y
    by_cases rest (inl same) = Contains-append_left (f first) (flat_map f xs) y (subst (λ (z : X). Contains (f z) y) (sym same) here)
    by_cases rest (inr later) = Contains-append_right (f first) (flat_map f xs) y (rest later here)

pub flat_in : {X Y : Type 0} (f : X → List Y) (xs : List X) (y : Y) → Contains (flat_map f xs) y → (x : X) × Contains xs x × Contains (f x) y
flat_in f [] y there = absurd (no_item y there)
flat_in {X = X} {Y = Y} f (first ∷ xs) y there = by_cases (flat_in f xs y) (Contains-append_cases (f first) (flat_map f xs) y there)
  where
    by_cases : (Contains (flat_map f xs) y → (x : X) × Contains xs x × Contains (f x) y) → Contains (f first) y ⊎ Contains (flat_map f xs) y → (x : X) × Contains (first ∷ xs) x × Contains (f x) y
    by_cases rest (inl here) = (first, in_here first xs, here)
    by_cases rest (inr later) =
        let found = rest later in
        (found.0, in_there first found.0 xs found.1, found.2)
