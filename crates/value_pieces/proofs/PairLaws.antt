-- Pairs of two lists that are gone over side by side.
use Rattle.std.proofs.Common.{◌≡◌, ◌+◌, ◌<◌, ◌≤◌, ℕ, Bool, true, false, cond, eqb, List, [], ◌∷◌, ◌++◌, length, get_or, drop, map, filter, refl, sym, ◌∙◌, ap, append_assoc, arith}
use Rattle.std.specs.Prelude.{zip}
use Rattle.std.proofs.lemmas.Bool.Decides.{nat_tests}
use Rattle.std.proofs.lemmas.List.{drop_more, drop_all}

pub apart : (a b : ℕ) → (a ≡ b → ⊥) → eqb a b ≡ false
apart a b differ = by_cases (eqb a b) refl
  where
    by_cases : (t : Bool) → eqb a b ≡ t → t ≡ false
    by_cases true is =
        let same : a ≡ b = grind (arith, nat_tests, is) in
        absurd (differ same)
    by_cases false is = refl

module _ {A B C : Type 0} (keep : A × B → Bool) (f : A × B → C) (xs : List A) (ys : List B) where
  -- what is made of the pairs from a place on
  abbrev pub made_from : ℕ → List C
  made_from k = map f (filter keep (zip (drop k xs) (drop k ys)))

  module _ (k : ℕ) (x : A) (y : B) (x_low : k < length xs) (y_low : k < length ys) where
    next : made_from k ≡ map f (filter keep ((get_or xs k x, get_or ys k y) ∷ zip (drop (k + 1) xs) (drop (k + 1) ys)))
    next =
        ap (λ list. map f (filter keep (zip list (drop k ys)))) (drop_more xs k x x_low)
        ∙ ap (λ list. map f (filter keep (zip (get_or xs k x ∷ drop (k + 1) xs) list))) (drop_more ys k y y_low)

    pub made_more : (made : List C) → keep (get_or xs k x, get_or ys k y) ≡ true → (made ++ f (get_or xs k x, get_or ys k y) ∷ []) ++ made_from (k + 1) ≡ made ++ made_from k
    made_more made kept =
        append_assoc made (f (get_or xs k x, get_or ys k y) ∷ []) (made_from (k + 1))
        ∙ ap (λ list. made ++ list) (sym (next ∙ ap (λ t. map f (cond t ((get_or xs k x, get_or ys k y) ∷ filter keep (zip (drop (k + 1) xs) (drop (k + 1) ys))) (filter keep (zip (drop (k + 1) xs) (drop (k + 1) ys))))) kept))

    pub made_skipped : keep (get_or xs k x, get_or ys k y) ≡ false → made_from (k + 1) ≡ made_from k
    made_skipped left = sym (next ∙ ap (λ t. map f (cond t ((get_or xs k x, get_or ys k y) ∷ filter keep (zip (drop (k + 1) xs) (drop (k + 1) ys))) (filter keep (zip (drop (k + 1) xs) (drop (k + 1) ys))))) left)

  pub made_all : (k : ℕ) (made : List C) → length xs ≤ k → made ++ made_from k ≡ made ++ []
  made_all k made past = ap (λ list. made ++ map f (filter keep (zip list (drop k ys)))) (drop_all k xs past)
