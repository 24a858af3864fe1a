-- Places of names, by recursion on the list.
use Rattle.std.proofs.Common.{◌≡◌, ◌+◌, ℕ, suc, List, [], ◌∷◌, ◌++◌, length, Option, Some, None, refl, sym, ◌∙◌, ap, arith, true, false, cond, not, Bool, nat_lt, ◌||◌}
use Rattle.std.specs.Option.{option_map, is_some, IsSome}
use Rattle.std.specs.Bool.{MatchBool}
use Rattle.std.specs.List.{position, position_or_len, list_any}
use Rattle.std.specs.Str.{bytes_eq}
use Rattle.std.proofs.lemmas.Bool.Decides.{nat_tests}
use Rattle.name_table.specs.Names.{place_of}

position-cons : {X : Type 0} (p : X → Bool) (x : X) (xs : List X) → position p (x ∷ xs) ≡ cond {A = Option ℕ} (p x) (Some 0) (option_map suc (position p xs))
position-cons p x xs =
    elim (p x) as (λ b. cond {A = Option ℕ} (nat_lt (cond {A = ℕ} (not b) (1 + position_or_len p xs) 0) (suc (length xs))) (Some (cond {A = ℕ} (not b) (1 + position_or_len p xs) 0)) None ≡ cond {A = Option ℕ} b (Some 0) (option_map suc (position p xs))) [
      | true ↦ first (length xs)
      | false ↦ later (position_or_len p xs) (length xs)
    ]
  where
    first : (n : ℕ) → cond {A = Option ℕ} (nat_lt 0 (suc n)) (Some 0) None ≡ Some 0
    first n = grind (arith, nat_tests)

    later : (m n : ℕ) → cond {A = Option ℕ} (nat_lt (1 + m) (suc n)) (Some (1 + m)) None ≡ option_map suc (cond {A = Option ℕ} (nat_lt m n) (Some m) None)
    later m n = elim (nat_lt m n) as (λ b. nat_lt m n ≡ b → cond {A = Option ℕ} (nat_lt (1 + m) (suc n)) (Some (1 + m)) None ≡ option_map suc (cond {A = Option ℕ} b (Some m) None)) [
      | true ↦ λ e. grind (arith, nat_tests)
      | false ↦ λ e. grind (arith, nat_tests)
    ] refl

-- the table's look-up
pub place_of-is : (name : List ℕ) (keys : List (List ℕ)) → position (bytes_eq name) keys ≡ place_of name keys
place_of-is name [] = grind (arith, nat_tests)
place_of-is name (k ∷ keys) = position-cons (bytes_eq name) k keys ∙ ap (λ (o : Option ℕ). cond {A = Option ℕ} (bytes_eq name k) (Some 0) (option_map suc o)) (place_of-is name keys)

is_some-map : {A B : Type 0} (f : A → B) (o : Option A) → is_some (option_map f o) ≡ is_some o
is_some-map f None = refl
is_some-map f (Some x) = refl

-- whether the table has a name
list_any-is : (name : List ℕ) (keys : List (List ℕ)) → list_any (bytes_eq name) keys ≡ is_some (place_of name keys)
list_any-is name [] = refl
list_any-is name (k ∷ keys) =
    elim (bytes_eq name k) as (λ b. (b || list_any (bytes_eq name) keys) ≡ is_some (cond {A = Option ℕ} b (Some 0) (option_map suc (place_of name keys)))) [
      | true ↦ refl
      | false ↦ list_any-is name keys ∙ sym (is_some-map suc (place_of name keys))
    ]

-- what adding a name leaves
pub added : (name : List ℕ) (old new : List (List ℕ)) (answer : Bool) → answer ≡ not (list_any (bytes_eq name) old) → new ≡ cond (list_any (bytes_eq name) old) old (old ++ name ∷ [])
    → MatchBool answer ((place_of name old ≡ None) × (new ≡ old ++ name ∷ [])) (IsSome (place_of name old) × (new ≡ old))
added name old new answer is after = go (list_any (bytes_eq name) old) (list_any-is name old) is after
  where
    none_of : (o : Option ℕ) → false ≡ is_some o → o ≡ None
    none_of None e = refl
    none_of (Some x) e = cc

    some_of : (o : Option ℕ) → true ≡ is_some o → IsSome o
    some_of None e = cc
    some_of (Some x) e = refl

    go : (there : Bool) → there ≡ is_some (place_of name old) → answer ≡ not there → new ≡ cond there old (old ++ name ∷ [])
        → MatchBool answer ((place_of name old ≡ None) × (new ≡ old ++ name ∷ [])) (IsSome (place_of name old) × (new ≡ old))
    go true found e n = rw e (some_of _ found, n)
    go false found e n = rw e (none_of _ found, n)
