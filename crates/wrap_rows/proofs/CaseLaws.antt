-- Lists taken apart: what holds of each item as a pair for each, what holds of one as a choice.
use Rattle.std.proofs.Common.{◌≡◌, ℕ, zero, suc, ◌<◌, Bool, true, false, ◌⊎◌, List, [], ◌∷◌, length, get_or, refl, inl, inr, subst, sym, arith}
use Rattle.std.specs.Prelude.{All, Any}
use Rattle.std.proofs.lemmas.List.Elements.{All-cons}

-- a claim on a test, by what the test says
pub by_test : (P : Bool → Type 0) (test : Bool) → (test ≡ true → P true) → (test ≡ false → P false) → P test
by_test P true when_true when_false = when_true refl
by_test P false when_true when_false = when_false refl

abbrev pub Each : {X : Type 0} → (X → Type 0) → List X → Type 0
Each P [] = Unit {0}
Each P (x ∷ xs) = P x × Each P xs

abbrev pub Some_of : {X : Type 0} → (X → Type 0) → List X → Type 0
Some_of P [] = ⊥
Some_of P (x ∷ xs) = P x ⊎ Some_of P xs

pub Each-from_All : {X : Type 0} (P : X → Type 0) (xs : List X) → All P xs → Each P xs
Each-from_All P [] each = tt
Each-from_All P (x ∷ xs) each = (each 0 x (omega arith), Each-from_All P xs (λ k d within. each (suc k) d (omega arith)))

pub All-from_Each : {X : Type 0} (P : X → Type 0) (xs : List X) → Each P xs → All P xs
All-from_Each P [] each = λ k d within. absurd (omega arith)
All-from_Each P (x ∷ xs) each = All-cons P x xs each.0 (All-from_Each P xs each.1)

some_at : {X : Type 0} (P : X → Type 0) (xs : List X) (k : ℕ) (x : X) → k < length xs → get_or xs k x ≡ x → P x → Some_of P xs
some_at P [] k x within at here = absurd (omega arith)
some_at P (y ∷ ys) zero x within at here = inl (subst P (sym at) here)
some_at P (y ∷ ys) (suc k) x within at here = inr (some_at P ys k x (omega arith) at here)

pub Some_of-from_Any : {X : Type 0} (P : X → Type 0) (xs : List X) → Any P xs → Some_of P xs
Some_of-from_Any P xs w = some_at P xs w.0 w.1 w.2 w.3 w.4

pub Any-from_Some_of : {X : Type 0} (P : X → Type 0) (xs : List X) → Some_of P xs → Any P xs
Any-from_Some_of P [] some = elim some [ ]
Any-from_Some_of P (x ∷ xs) some =
    elim some [
      | inl here ↦ (0, x, omega arith, refl, here)
      | inr later ↦ let w = Any-from_Some_of P xs later in (suc w.0, w.1, omega (arith, w.2), w.3, w.4)
    ]

-- a choice whose first claim doesn't hold, and one that has no other
pub without_first : {A B : Type 0} → A ⊎ B → (A → ⊥) → B
without_first either barred = elim either [ inl a ↦ absurd (barred a) | inr b ↦ b ]

pub only : {A : Type 0} → A ⊎ ⊥ → A
only either = elim either [ inl a ↦ a | inr none ↦ elim none [ ] ]
