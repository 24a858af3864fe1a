-- Names taken one after the other.
use Rattle.std.proofs.Common.{◌≡◌, ◌<◌, ◌+◌, ℕ, suc, List, [], ◌∷◌, ◌++◌, length, get_or, take, drop, map, Bor, Option, Some, None, refl, sym, ◌∙◌, ap, subst, true, false, cond, Bool, arith, take-append-drop}
use Rattle.std.specs.Prelude.{Contains}
use Rattle.std.specs.Option.{option_map, IsSome}
use Rattle.std.specs.Bool.{MatchBool}
use Rattle.std.specs.Str.{bytes_eq}
use Rattle.std.proofs.lemmas.List.{drop_more, take_more, map-append, take-map, get_or-map, length-map}
use Rattle.std.proofs.lemmas.Slice.Eq.{bytes_eq-Decides}
use Rattle.name_table.specs.Names.{place_of, AreDifferent, IsFirstRepeat}
use Rattle.name_table.proofs.DifferentLaws.{different-next, different-push}

abbrev pub spelled : List (Bor (List ℕ)) → List (List ℕ)
spelled names = map (λ (name : Bor (List ℕ)). name.now) names

none_some : (o : Option ℕ) → o ≡ None → IsSome o → ⊥
none_some None e some = cc
none_some (Some x) e some = cc

-- a name that has a place stands there
pub stands : (name : List ℕ) (names : List (List ℕ)) → IsSome (place_of name names) → Contains names name
stands name [] some = absurd (none_some None refl some)
stands name (other ∷ others) some =
    elim (bytes_eq name other) as (λ b. bytes_eq name other ≡ b → IsSome (cond {A = Option ℕ} b (Some 0) (option_map suc (place_of name others))) → Contains (other ∷ others) name) [
      | true ↦ λ e s. (0, omega arith, sym ((bytes_eq-Decides name other).0 e))
      | false ↦ λ e s. later (stands name others (unmapped (place_of name others) s))
    ] refl some
  where
    unmapped : (o : Option ℕ) → IsSome (option_map suc o) → IsSome o
    unmapped None s = s
    unmapped (Some x) s = refl

    later : Contains others name → Contains (other ∷ others) name
    later there = (suc there.0, omega arith, there.2)

module _ (items : List (Bor (List ℕ))) (i : ℕ) (item default : Bor (List ℕ)) (within : i < length items) (is : item ≡ get_or items i default) where
  one_more : spelled (take (i + 1) items) ≡ spelled (take i items) ++ item.now ∷ []
  one_more = ap spelled (take_more items i default within ∙ ap (λ (x : Bor (List ℕ)). take i items ++ x ∷ []) (sym is)) ∙ map-append (λ (name : Bor (List ℕ)). name.now) (take i items) (item ∷ [])

  -- the name at the place
  pub name_at : get_or (spelled items) i [] ≡ item.now
  name_at = get_or-map (λ (name : Bor (List ℕ)). name.now) items i default [] within ∙ ap (λ (name : Bor (List ℕ)). name.now) (sym is)

  -- names that differ from those before them, with one name more
  pub new_name : (table new : List (List ℕ)) (answer : Bool) → table ≡ spelled (take i items) → AreDifferent table → answer ≡ true
      → MatchBool answer ((place_of item.now table ≡ None) × (new ≡ table ++ item.now ∷ [])) (IsSome (place_of item.now table) × (new ≡ table))
      → (new ≡ spelled (take (i + 1) items)) × AreDifferent new
  new_name table new answer at different known added =
      let fresh : (place_of item.now table ≡ None) × (new ≡ table ++ item.now ∷ []) = (rw known at added) in
      (fresh.1 ∙ ap (λ (l : List (List ℕ)). l ++ item.now ∷ []) at ∙ sym one_more, subst AreDifferent (sym fresh.1) (different-push table item.now different fresh.0))

  -- a name that stood before
  pub old_name : (table new : List (List ℕ)) (answer : Bool) → table ≡ spelled (take i items) → AreDifferent table → answer ≡ false
      → MatchBool answer ((place_of item.now table ≡ None) × (new ≡ table ++ item.now ∷ [])) (IsSome (place_of item.now table) × (new ≡ table))
      → IsFirstRepeat (spelled items) i
  old_name table new answer at different known added =
      let old : IsSome (place_of item.now table) × (new ≡ table) = (rw known at added) in
      let front : table ≡ take i (spelled items) = at ∙ sym (take-map (λ (name : Bor (List ℕ)). name.now) i items) in
      record {
        within = rw length-map within;
        again = subst (λ (l : List (List ℕ)). Contains l (get_or (spelled items) i [])) front (subst (Contains table) (sym name_at) (stands item.now table old.0));
        first = subst AreDifferent front different;
      }

  -- all differ, so each is new
  pub next_name : (table new : List (List ℕ)) (answer : Bool) → table ≡ spelled (take i items) → AreDifferent (spelled items)
      → MatchBool answer ((place_of item.now table ≡ None) × (new ≡ table ++ item.now ∷ [])) (IsSome (place_of item.now table) × (new ≡ table))
      → new ≡ spelled (take (i + 1) items)
  next_name table new answer at different added =
      let left : drop i items ≡ item ∷ drop (i + 1) items = drop_more items i default within ∙ ap (λ (x : Bor (List ℕ)). x ∷ drop (i + 1) items) (sym is) in
      let whole : items ≡ take i items ++ item ∷ drop (i + 1) items = sym (take-append-drop i items) ∙ ap (λ (l : List (Bor (List ℕ))). take i items ++ l) left in
      let names : spelled items ≡ table ++ item.now ∷ spelled (drop (i + 1) items) = ap spelled whole ∙ map-append (λ (name : Bor (List ℕ)). name.now) (take i items) (item ∷ drop (i + 1) items) ∙ ap (λ (l : List (List ℕ)). l ++ item.now ∷ spelled (drop (i + 1) items)) (sym at) in
      let is_new : place_of item.now table ≡ None = different-next table item.now (spelled (drop (i + 1) items)) (subst AreDifferent names different) in
      fresh_after answer added is_new ∙ ap (λ (l : List (List ℕ)). l ++ item.now ∷ []) at ∙ sym one_more
    where
      fresh_after : (answer : Bool) → MatchBool answer ((place_of item.now table ≡ None) × (new ≡ table ++ item.now ∷ [])) (IsSome (place_of item.now table) × (new ≡ table)) → place_of item.now table ≡ None → new ≡ table ++ item.now ∷ []
      fresh_after true added none = added.1
      fresh_after false added none = absurd (none_some (place_of item.now table) none added.0)
