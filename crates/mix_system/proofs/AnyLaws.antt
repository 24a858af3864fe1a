-- Some item of a list: of a list that begins with an item, is joined, or has the items of another.
use Rattle.std.proofs.Common.{◌⊎◌, List, [], ◌∷◌, ◌++◌, subst, sym, inl, inr, ⊎_elim, arith}
use Rattle.std.specs.Prelude.{All, Any, Contains}
use Rattle.std.proofs.lemmas.List.Elements.{All-contains, Contains-append_left, Contains-append_right, Contains-append_cases, Contains-push, Contains-push_cases}

-- an item that has the property, from one that is contained
pub Any-from_contained : {X : Type 0} (P : X → Type 0) (xs : List X) (x : X) → Contains xs x → P x → Any P xs
Any-from_contained P xs x within p = (within.0, x, within.1, within.2, p)

-- and back
pub contained-from_Any : {X : Type 0} (P : X → Type 0) (xs : List X) → Any P xs → (x : X) × Contains xs x × P x
contained-from_Any P xs any = (any.1, (any.0, any.2, any.3), any.4)

pub Any-none : {X : Type 0} (P : X → Type 0) → Any P [] → ⊥
Any-none P any = omega (arith, any.2)

pub Any-append_left : {X : Type 0} (P : X → Type 0) (xs ys : List X) → Any P xs → Any P (xs ++ ys)
Any-append_left P xs ys any = Any-from_contained P (xs ++ ys) any.1 (Contains-append_left xs ys any.1 (any.0, any.2, any.3)) any.4

pub Any-append_right : {X : Type 0} (P : X → Type 0) (xs ys : List X) → Any P ys → Any P (xs ++ ys)
Any-append_right P xs ys any = Any-from_contained P (xs ++ ys) any.1 (Contains-append_right xs ys any.1 (any.0, any.2, any.3)) any.4

pub Any-append_cases : {X : Type 0} (P : X → Type 0) (xs ys : List X) → Any P (xs ++ ys) → Any P xs ⊎ Any P ys
Any-append_cases P xs ys any =
    ⊎_elim (λ left. inl (Any-from_contained P xs any.1 left any.4)) (λ right. inr (Any-from_contained P ys any.1 right any.4)) (Contains-append_cases xs ys any.1 (any.0, any.2, any.3))

pub Any-one : {X : Type 0} (P : X → Type 0) (x : X) → P x → Any P (x ∷ [])
Any-one P x p = Any-from_contained P (x ∷ []) x (Contains-push [] x) p

pub Any-one_holds : {X : Type 0} (P : X → Type 0) (x : X) → Any P (x ∷ []) → P x
Any-one_holds P x any =
    ⊎_elim (λ none. absurd (Any-none P (Any-from_contained P [] any.1 none any.4))) (λ same. subst P (sym same) any.4) (Contains-push_cases [] x any.1 (any.0, any.2, any.3))

pub Any-here : {X : Type 0} (P : X → Type 0) (x : X) (xs : List X) → P x → Any P (x ∷ xs)
Any-here P x xs p = Any-append_left P (x ∷ []) xs (Any-one P x p)

pub Any-there : {X : Type 0} (P : X → Type 0) (x : X) (xs : List X) → Any P xs → Any P (x ∷ xs)
Any-there P x xs any = Any-append_right P (x ∷ []) xs any

pub Any-cons_cases : {X : Type 0} (P : X → Type 0) (x : X) (xs : List X) → Any P (x ∷ xs) → P x ⊎ Any P xs
Any-cons_cases P x xs any = ⊎_elim (λ here. inl (Any-one_holds P x here)) (λ there. inr there) (Any-append_cases P (x ∷ []) xs any)

pub Any-weaker : {X : Type 0} (P Q : X → Type 0) → ((x : X) → P x → Q x) → (xs : List X) → Any P xs → Any Q xs
Any-weaker P Q weaker xs any = (any.0, any.1, any.2, any.3, weaker any.1 any.4)

-- each item of the one list is among those of the other
abbrev pub AreAmong : {X : Type 0} → List X → List X → Type 0
AreAmong {X} xs ys = (x : X) → Contains xs x → Contains ys x

pub Any-among : {X : Type 0} (P : X → Type 0) (xs ys : List X) → AreAmong xs ys → Any P xs → Any P ys
Any-among P xs ys among any = Any-from_contained P ys any.1 (among any.1 (any.0, any.2, any.3)) any.4

-- what holds of all holds of the one that has a property
pub Any-with_all : {X : Type 0} (P Q : X → Type 0) (xs : List X) → All P xs → Any Q xs → (x : X) × P x × Q x
Any-with_all P Q xs all any = (any.1, All-contains P xs any.1 all (any.0, any.2, any.3), any.4)
