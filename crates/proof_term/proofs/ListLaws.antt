-- What holds of each item of lists that are put together, and of the items that a filter gives.
use Rattle.std.proofs.Common.{◌≡◌, List, [], ◌∷◌, Option, Some, None, refl, All}
use Rattle.std.specs.Prelude.{filter_map}
use Rattle.std.specs.List.{flat_map}
use Rattle.std.proofs.lemmas.List.Elements.{All-nil, All-cons, All-head, All-tail, All-append}

pub All-flat_map : {X Y : Type 0} (P : Y → Type 0) (f : X → List Y) (xs : List X) → All (λ x. All P (f x)) xs → All P (flat_map f xs)
All-flat_map P f [] all = All-nil P
All-flat_map P f (x ∷ xs) all =
    All-append P (f x) (flat_map f xs) (All-head (λ x. All P (f x)) x xs all) (All-flat_map P f xs (All-tail (λ x. All P (f x)) x xs all))

pub All-filter_map : {X Y : Type 0} (P : Y → Type 0) (f : X → Option Y) (Q : X → Type 0) (xs : List X) → ((x : X) (y : Y) → f x ≡ Some y → Q x → P y) → All Q xs → All P (filter_map f xs)
All-filter_map P f Q [] gives all = All-nil P
All-filter_map {X} {Y} P f Q (x ∷ xs) gives all = go (All-filter_map P f Q xs gives (All-tail Q x xs all)) (f x) refl
  where
    go : All P (filter_map f xs) → (o : Option Y) → f x ≡ o → All P (filter_map f (x ∷ xs))
    go rest None e = rw e rest
    go rest (Some y) e = rw e (All-cons P y (filter_map f xs) (gives x y e (All-head Q x xs all)) rest)
