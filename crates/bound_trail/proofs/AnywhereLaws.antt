-- Some item of a list: at its front, behind it, and in joined lists.
use Rattle.std.proofs.Common.{◌≡◌, ◌⊎◌, ℕ, zero, suc, ◌+◌, ◌<◌, List, [], ◌∷◌, ◌++◌, length, length-append, get_or, take, Any, refl, sym, ◌∙◌, subst, inl, inr, ⊎_elim, arith}
use Rattle.std.proofs.lemmas.List.{get_or_append_left, get_or_default, take_more}

pub any_none : {X : Type 0} (P : X → Type 0) → Any P [] → ⊥
any_none P a = omega (arith, a.2)

cases_at : {X : Type 0} (P : X → Type 0) (x : X) (xs : List X) (k : ℕ) (y : X) → k < length (x ∷ xs) → get_or (x ∷ xs) k y ≡ y → P y → P x ⊎ Any P xs
cases_at P x xs zero y h e p = inl (subst P (sym e) p)
cases_at P x xs (suc k) y h e p = inr (k, y, omega arith, e, p)

pub any_cons_cases : {X : Type 0} (P : X → Type 0) (x : X) (xs : List X) → Any P (x ∷ xs) → P x ⊎ Any P xs
any_cons_cases P x xs a = cases_at P x xs a.0 a.1 a.2 a.3 a.4

pub any_here : {X : Type 0} (P : X → Type 0) (x : X) (xs : List X) → P x → Any P (x ∷ xs)
any_here P x xs p = (0, x, omega arith, refl, p)

pub any_there : {X : Type 0} (P : X → Type 0) (x : X) (xs : List X) → Any P xs → Any P (x ∷ xs)
any_there P x xs a = (suc a.0, a.1, omega (arith, a.2), a.3, a.4)

pub any_left : {X : Type 0} (P : X → Type 0) (xs ys : List X) → Any P xs → Any P (xs ++ ys)
any_left P xs ys a =
    (a.0, a.1, omega (arith, a.2, length-append xs ys), get_or_append_left xs ys a.1 a.0 a.2 ∙ a.3, a.4)

pub any_right : {X : Type 0} (P : X → Type 0) (xs ys : List X) → Any P ys → Any P (xs ++ ys)
any_right P [] ys a = a
any_right P (x ∷ xs) ys a = any_there P x (xs ++ ys) (any_right P xs ys a)

pub any_append_cases : {X : Type 0} (P : X → Type 0) (xs ys : List X) → Any P (xs ++ ys) → Any P xs ⊎ Any P ys
any_append_cases P [] ys a = inr a
any_append_cases P (x ∷ xs) ys a =
    ⊎_elim (λ p. inl (any_here P x xs p)) (λ rest. ⊎_elim (λ b. inl (any_there P x xs b)) (λ b. inr b) (any_append_cases P xs ys rest)) (any_cons_cases P x (xs ++ ys) a)

pub any_weaker : {X : Type 0} (P Q : X → Type 0) → ((x : X) → P x → Q x) → (xs : List X) → Any P xs → Any Q xs
any_weaker P Q f xs a = (a.0, a.1, a.2, a.3, f a.1 a.4)

pub any_at : {X : Type 0} (P : X → Type 0) (xs : List X) (i : ℕ) (d : X) → i < length xs → P (get_or xs i d) → Any P xs
any_at P xs i d h p = (i, get_or xs i d, h, get_or_default xs i (get_or xs i d) d h, p)

-- an item among one more of a list is among those before, or the last of them
pub any_take_cases : {X : Type 0} (P : X → Type 0) (xs : List X) (i : ℕ) (d : X) → i < length xs → Any P (take (i + 1) xs) → Any P (take i xs) ⊎ P (get_or xs i d)
any_take_cases P xs i d h a =
    ⊎_elim (λ b. inl b) (λ b. ⊎_elim (λ p. inr p) (λ c. absurd (any_none P c)) (any_cons_cases P (get_or xs i d) [] b)) (any_append_cases P (take i xs) (get_or xs i d ∷ []) (subst (Any P) (take_more xs i d h) a))
