-- Different names: parts of their list.
use Rattle.std.proofs.Common.{◌≡◌, ℕ, suc, List, [], ◌∷◌, ◌++◌, Option, Some, None, refl, sym, ◌∙◌, ap, subst, true, false, cond, append_assoc}
use Rattle.std.specs.Option.{option_map}
use Rattle.std.specs.Str.{bytes_eq}
use Rattle.std.proofs.lemmas.Bool.Decides.{same_from_decides, Decides-like}
use Rattle.std.proofs.lemmas.Slice.Eq.{bytes_eq-Decides}
use Rattle.name_table.specs.Names.{place_of, AreDifferent}

-- ---- a name that stands nowhere

none_suc : (o : Option ℕ) → option_map suc o ≡ None → o ≡ None
none_suc None e = refl
none_suc (Some p) e = absurd (cc e)

same-turned : (x y : List ℕ) → bytes_eq x y ≡ bytes_eq y x
same-turned x y = same_from_decides {P = x ≡ y} (bytes_eq x y) (bytes_eq y x) (bytes_eq-Decides x y) (Decides-like (bytes_eq y x) sym sym (bytes_eq-Decides y x))

-- a name that isn't there is not the first one, and stands nowhere behind it
pub place_of-cons : (name other : List ℕ) (others : List (List ℕ)) → place_of name (other ∷ others) ≡ None → (bytes_eq name other ≡ false) × (place_of name others ≡ None)
place_of-cons name other others =
    elim (bytes_eq name other) as (λ b. cond {A = Option ℕ} b (Some 0) (option_map suc (place_of name others)) ≡ None → (b ≡ false) × (place_of name others ≡ None)) [
      | true ↦ λ e. absurd (cc e)
      | false ↦ λ e. (refl, none_suc (place_of name others) e)
    ]

pub place_of-other : (name other : List ℕ) (others : List (List ℕ)) → bytes_eq name other ≡ false → place_of name others ≡ None → place_of name (other ∷ others) ≡ None
place_of-other name other others test none = rw test (ap (option_map suc) none)

-- a name that isn't in a list of two parts is in neither
pub place_of-append : (name : List ℕ) (xs ys : List (List ℕ)) → place_of name (xs ++ ys) ≡ None → (place_of name xs ≡ None) × (place_of name ys ≡ None)
place_of-append name [] ys e = (refl, e)
place_of-append name (x ∷ xs) ys e =
    let here = place_of-cons name x (xs ++ ys) e in
    let tail = place_of-append name xs ys here.1 in
    (place_of-other name x xs here.0 tail.0, tail.1)

-- and one that is in neither isn't there
pub place_of-append_none : (name : List ℕ) (xs ys : List (List ℕ)) → place_of name xs ≡ None → place_of name ys ≡ None → place_of name (xs ++ ys) ≡ None
place_of-append_none name [] ys e f = f
place_of-append_none name (x ∷ xs) ys e f =
    let here = place_of-cons name x xs e in
    place_of-other name x (xs ++ ys) here.0 (place_of-append_none name xs ys here.1 f)

-- ---- parts of different names

pub different-left : (xs ys : List (List ℕ)) → AreDifferent (xs ++ ys) → AreDifferent xs
different-left [] ys d = tt
different-left (x ∷ xs) ys d = ((place_of-append x xs ys d.0).0, different-left xs ys d.1)

pub different-right : (xs ys : List (List ℕ)) → AreDifferent (xs ++ ys) → AreDifferent ys
different-right [] ys d = d
different-right (x ∷ xs) ys d = different-right xs ys d.1

-- without those in the middle
pub different-around : (xs ys zs : List (List ℕ)) → AreDifferent (xs ++ (ys ++ zs)) → AreDifferent (xs ++ zs)
different-around [] ys zs d = different-right ys zs d
different-around (x ∷ xs) ys zs d =
    let parts = place_of-append x xs (ys ++ zs) d.0 in
    (place_of-append_none x xs zs parts.0 (place_of-append x ys zs parts.1).1, different-around xs ys zs d.1)

-- the name that comes next is new
pub different-next : (xs : List (List ℕ)) (name : List ℕ) (ys : List (List ℕ)) → AreDifferent (xs ++ name ∷ ys) → place_of name xs ≡ None
different-next [] name ys d = refl
different-next (x ∷ xs) name ys d =
    let there = place_of-append x xs (name ∷ ys) d.0 in
    let here = place_of-cons x name ys there.1 in
    place_of-other name x xs (same-turned name x ∙ here.0) (different-next xs name ys d.1)

-- the name that comes next is taken to those before it
pub different-moved : (xs : List (List ℕ)) (name : List ℕ) (ys : List (List ℕ)) → AreDifferent (xs ++ name ∷ ys) → AreDifferent ((xs ++ name ∷ []) ++ ys)
different-moved xs name ys d = subst AreDifferent (sym (append_assoc xs (name ∷ []) ys)) d

-- a new name behind different ones
pub different-push : (xs : List (List ℕ)) (name : List ℕ) → AreDifferent xs → place_of name xs ≡ None → AreDifferent (xs ++ name ∷ [])
different-push [] name d e = (refl, tt)
different-push (x ∷ xs) name d e =
    let here = place_of-cons name x xs e in
    (place_of-append_none x xs (name ∷ []) d.0 (place_of-other x name [] (same-turned x name ∙ here.0) refl), different-push xs name d.1 here.1)
