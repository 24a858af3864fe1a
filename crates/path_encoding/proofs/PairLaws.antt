-- A loop over two lists at once.
use Rattle.std.proofs.Common.{◌≡◌, ◌<◌, ◌≤◌, ◌+◌, ℕ, Bool, true, false, cond, Some, List, [], ◌∷◌, ◌++◌, length, get_or, drop, map, append-nil, append_assoc, sym, ◌∙◌, ap}
use Rattle.std.specs.Prelude.{zip}
use Rattle.std.specs.Option.{unwrap_or}
use Rattle.std.specs.Map.{lookup}
use Rattle.std.specs.List.{filter}
use Rattle.std.proofs.lemmas.List.{drop_more, drop_all}
use Rattle.ll_links.specs.declared.link.BlockId.{BlockId}
use Rattle.ll_verifier.specs.declared.order.PositionEdge.{PositionEdge}
use Rattle.path_encoding.specs.Spots.{goes_to, edge_among}

-- the pairs from this place on
abbrev pub pairs_from : {X Y : Type 0} → List X → List Y → ℕ → List (X × Y)
pairs_from xs ys i = zip (drop i xs) (drop i ys)

pub pairs_more : {X Y : Type 0} (xs : List X) (ys : List Y) (i : ℕ) (x : X) (y : Y) → i < length xs → i < length ys → pairs_from xs ys i ≡ (get_or xs i x, get_or ys i y) ∷ pairs_from xs ys (i + 1)
pairs_more {X = X} {Y = Y} xs ys i x y low low_too =
    ap (λ (rest : List X). zip rest (drop i ys)) (drop_more xs i x low) ∙ ap (λ (rest : List Y). zip (get_or xs i x ∷ drop (i + 1) xs) rest) (drop_more ys i y low_too)

pub pairs_end : {X Y : Type 0} (xs : List X) (ys : List Y) (i : ℕ) → length xs ≤ i → pairs_from xs ys i ≡ []
pairs_end {X = X} {Y = Y} xs ys i past = ap (λ (rest : List X). zip rest (drop i ys)) (drop_all i xs past)

-- a list that is made of the pairs that pass
module _ {X Y Z : Type 0} (p : X × Y → Bool) (f : X × Y → Z) (made : List Z) (xs : List X) (ys : List Y) (i : ℕ) (x : X) (y : Y) where
  pub passed : made ++ map f (filter p (pairs_from xs ys i)) ≡ map f (filter p (zip xs ys)) → i < length xs → i < length ys → p (get_or xs i x, get_or ys i y) ≡ true → (made ++ f (get_or xs i x, get_or ys i y) ∷ []) ++ map f (filter p (pairs_from xs ys (i + 1))) ≡ map f (filter p (zip xs ys))
  passed so_far low low_too passes =
      let one : X × Y = (get_or xs i x, get_or ys i y) in
      append_assoc made (f one ∷ []) (map f (filter p (pairs_from xs ys (i + 1))))
      ∙ ap (λ (b : Bool). made ++ map f (cond b (one ∷ filter p (pairs_from xs ys (i + 1))) (filter p (pairs_from xs ys (i + 1))))) (sym passes)
      ∙ ap (λ (pairs : List (X × Y)). made ++ map f (filter p pairs)) (sym (pairs_more xs ys i x y low low_too))
      ∙ so_far

  pub skipped : made ++ map f (filter p (pairs_from xs ys i)) ≡ map f (filter p (zip xs ys)) → i < length xs → i < length ys → p (get_or xs i x, get_or ys i y) ≡ false → made ++ map f (filter p (pairs_from xs ys (i + 1))) ≡ map f (filter p (zip xs ys))
  skipped so_far low low_too fails =
      let one : X × Y = (get_or xs i x, get_or ys i y) in
      ap (λ (b : Bool). made ++ map f (cond b (one ∷ filter p (pairs_from xs ys (i + 1))) (filter p (pairs_from xs ys (i + 1))))) (sym fails)
      ∙ ap (λ (pairs : List (X × Y)). made ++ map f (filter p pairs)) (sym (pairs_more xs ys i x y low low_too))
      ∙ so_far

  pub all_passed : made ++ map f (filter p (pairs_from xs ys i)) ≡ map f (filter p (zip xs ys)) → length xs ≤ i → made ≡ map f (filter p (zip xs ys))
  all_passed so_far past = sym (append-nil made) ∙ ap (λ (pairs : List (X × Y)). made ++ map f (filter p pairs)) (sym (pairs_end xs ys i past)) ∙ so_far

-- the edge that is looked for isn't this one
pub among_skipped : (order : List BlockId) (edges : List PositionEdge) (vars : List ℕ) (at place i : ℕ) (edge : PositionEdge) → i < length edges → i < length vars → goes_to order at place (get_or edges i edge) ≡ false → edge_among order (pairs_from edges vars (i + 1)) at place ≡ edge_among order (pairs_from edges vars i) at place
among_skipped order edges vars at place i edge low low_too fails =
    sym (ap (λ (pairs : List (PositionEdge × ℕ)). edge_among order pairs at place) (pairs_more edges vars i edge 0 low low_too)
    ∙ ap (λ (b : Bool). unwrap_or (cond b (Some (get_or vars i 0)) (lookup (goes_to order at place) (pairs_from edges vars (i + 1)))) 0) fails)

-- and where it is
pub among_found : (order : List BlockId) (edges : List PositionEdge) (vars : List ℕ) (at place i : ℕ) (edge : PositionEdge) → i < length edges → i < length vars → goes_to order at place (get_or edges i edge) ≡ true → edge_among order (pairs_from edges vars i) at place ≡ get_or vars i 0
among_found order edges vars at place i edge low low_too found =
    ap (λ (pairs : List (PositionEdge × ℕ)). edge_among order pairs at place) (pairs_more edges vars i edge 0 low low_too)
    ∙ ap (λ (b : Bool). unwrap_or (cond b (Some (get_or vars i 0)) (lookup (goes_to order at place) (pairs_from edges vars (i + 1)))) 0) found
