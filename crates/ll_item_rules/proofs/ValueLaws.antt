-- Values found by the places of their names.
use Rattle.std.proofs.Common.{◌≡◌, ◌<◌, ◌+◌, ℕ, suc, Bool, true, false, cond, List, [], ◌∷◌, ◌++◌, length, get_or, take, drop, map, Option, Some, None, refl, sym, ◌∙◌, ap, subst, take-append-drop}
use Rattle.std.specs.Option.{option_map, IsSome}
use Rattle.std.specs.Bool.{MatchBool}
use Rattle.std.specs.Str.{bytes_eq}
use Rattle.std.proofs.lemmas.List.{take_more, drop_more, map-append}
use Rattle.std.proofs.Math.ListN.{get_or-map}
use Rattle.name_table.specs.Names.{place_of, AreDifferent}
use Rattle.name_table.proofs.DifferentLaws.{different-next}
use Rattle.ll_items.specs.declared.values.ValueRef.{ValueRef}
use Rattle.ll_items.specs.Values.{value_of}
use Rattle.ll_item_rules.specs.Widths.{width_of}

abbrev names : List (List ℕ × ℕ) → List (List ℕ)
names values = map (λ (value : List ℕ × ℕ). value.0) values

abbrev HasWidth : List ℕ → List (List ℕ × ℕ) → Option ℕ → Type 0
HasWidth name values None = width_of name values ≡ None
HasWidth name values (Some place) = (default : List ℕ × ℕ) → width_of name values ≡ Some (get_or values place default).1

-- the width of the value at the place of its name
pub width-at : (name : List ℕ) (values : List (List ℕ × ℕ)) → HasWidth name values (place_of name (names values))
width-at name [] = refl
width-at name (value ∷ values) =
    elim (bytes_eq name value.0) as (λ b. bytes_eq name value.0 ≡ b → HasWidth name (value ∷ values) (cond {A = Option ℕ} b (Some 0) (option_map suc (place_of name (names values))))) [
      | true ↦ λ e default. rw e refl
      | false ↦ λ e. later e (place_of name (names values)) (width-at name values)
    ] refl
  where
    later : bytes_eq name value.0 ≡ false → (place : Option ℕ) → HasWidth name values place → HasWidth name (value ∷ values) (option_map suc place)
    later e None h = rw e h
    later e (Some place) h = λ default. rw e (h default)

pub width-found : (name : List ℕ) (values : List (List ℕ × ℕ)) (place : Option ℕ) → place ≡ place_of name (names values) → HasWidth name values place
width-found name values place e = subst (HasWidth name values) (sym e) (width-at name values)

-- the width that the table keeps at the place of a name
pub width_some : (name : List ℕ) (values whole : List (List ℕ × ℕ)) (numbers : List (List ℕ)) (items : List ValueRef) (number : ℕ) (default : ValueRef) → numbers ≡ names values → map value_of items ≡ values → values ≡ whole
    → Some number ≡ place_of name numbers → Some (get_or items number default).width ≡ width_of name whole
width_some name values whole numbers items number default is_numbers is_items is_whole found =
    let place : Some number ≡ place_of name (names values) = found ∙ ap (place_of name) is_numbers in
    let kept : width_of name values ≡ Some (get_or values number (value_of default)).1 = width-found name values (Some number) place (value_of default) in
    let stored : get_or values number (value_of default) ≡ value_of (get_or items number default) = ap (λ (l : List (List ℕ × ℕ)). get_or l number (value_of default)) (sym is_items) ∙ get_or-map value_of items number default in
    sym (ap (width_of name) (sym is_whole) ∙ kept ∙ ap (λ (value : List ℕ × ℕ). Some value.1) stored)

pub width_none : (name : List ℕ) (values whole : List (List ℕ × ℕ)) (numbers : List (List ℕ)) → numbers ≡ names values → values ≡ whole → None ≡ place_of name numbers → None ≡ width_of name whole
width_none name values whole numbers is_numbers is_whole found = sym (ap (width_of name) (sym is_whole) ∙ width-found name values None (found ∙ ap (place_of name) is_numbers))

abbrev spelled : List ValueRef → List (List ℕ)
spelled items = names (map value_of items)

spelled-append : (xs ys : List ValueRef) → spelled (xs ++ ys) ≡ spelled xs ++ spelled ys
spelled-append xs ys = ap names (map-append value_of xs ys) ∙ map-append (λ (value : List ℕ × ℕ). value.0) (map value_of xs) (map value_of ys)

none_some : (o : Option ℕ) → o ≡ None → IsSome o → ⊥
none_some None e some = cc
none_some (Some x) e some = cc

-- all names differ, so each is new
pub next_value : (items : List ValueRef) (i : ℕ) (item default : ValueRef) (values : List (List ℕ × ℕ)) (table new : List (List ℕ)) (answer : Bool) → i < length items → item ≡ get_or items i default → map value_of items ≡ values
    → AreDifferent (names values) → table ≡ spelled (take i items)
    → MatchBool answer ((place_of item.name.now table ≡ None) × (new ≡ table ++ item.name.now ∷ [])) (IsSome (place_of item.name.now table) × (new ≡ table)) → new ≡ spelled (take (i + 1) items)
next_value items i item default values table new answer within is same different at added =
    let left : drop i items ≡ item ∷ drop (i + 1) items = drop_more items i default within ∙ ap (λ (x : ValueRef). x ∷ drop (i + 1) items) (sym is) in
    let whole : items ≡ take i items ++ item ∷ drop (i + 1) items = sym (take-append-drop i items) ∙ ap (λ (l : List ValueRef). take i items ++ l) left in
    let all : names values ≡ table ++ item.name.now ∷ spelled (drop (i + 1) items) = ap names (sym same) ∙ ap spelled whole ∙ spelled-append (take i items) (item ∷ drop (i + 1) items) ∙ ap (λ (l : List (List ℕ)). l ++ item.name.now ∷ spelled (drop (i + 1) items)) (sym at) in
    let is_new : place_of item.name.now table ≡ None = different-next table item.name.now (spelled (drop (i + 1) items)) (subst AreDifferent all different) in
    let one_more : spelled (take (i + 1) items) ≡ spelled (take i items) ++ item.name.now ∷ [] = ap spelled (take_more items i default within ∙ ap (λ (x : ValueRef). take i items ++ x ∷ []) (sym is)) ∙ spelled-append (take i items) (item ∷ []) in
    fresh_after answer added is_new ∙ ap (λ (l : List (List ℕ)). l ++ item.name.now ∷ []) at ∙ sym one_more
  where
    fresh_after : (answer : Bool) → MatchBool answer ((place_of item.name.now table ≡ None) × (new ≡ table ++ item.name.now ∷ [])) (IsSome (place_of item.name.now table) × (new ≡ table)) → place_of item.name.now table ≡ None → new ≡ table ++ item.name.now ∷ []
    fresh_after true added none = added.1
    fresh_after false added none = absurd (none_some (place_of item.name.now table) none added.0)
