-- Numbers of cases taken one after the other.
use Rattle.std.proofs.Common.{◌≡◌, ◌<◌, ◌+◌, ℕ, Bool, true, false, not, cond, List, [], ◌∷◌, ◌++◌, length, get_or, take, drop, map, Option, Some, refl, sym, ◌∙◌, ap, ◌||◌, eqb}
use Rattle.std.specs.List.{list_any}
use Rattle.std.proofs.lemmas.Bool.Decides.{same_from_decides, Decides-eqb, Decides-like}
use Rattle.std.proofs.lemmas.List.{take_more, drop_more, map-append}
use Rattle.ll_tree.specs.declared.block.Case.{Case}
use Rattle.ll_item_rules.specs.Cases as spec

abbrev numbers : List Case → List ℕ
numbers cases = map (λ (case : Case). case.value) cases

same-turned : (x y : ℕ) → eqb x y ≡ eqb y x
same-turned x y = same_from_decides {P = x ≡ y} (eqb x y) (eqb y x) (Decides-eqb x y) (Decides-like (eqb y x) sym sym (Decides-eqb y x))

-- what the set of those seen says of a number
has-turned : (seen : List ℕ) (number : ℕ) → list_any (eqb number) seen ≡ spec.has_number seen number
has-turned [] number = refl
has-turned (other ∷ seen) number =
    ap (λ b. b || list_any (eqb number) seen) (same-turned number other) ∙ ap (λ b. eqb other number || b) (has-turned seen number)

module _ (cases : List Case) (i : ℕ) (case : Case) (within : i < length cases) (is : case ≡ get_or cases i case) (seen : List ℕ) (front : seen ≡ numbers (take i cases))
    (whole : Option ℕ) (so_far : spec.repeated_after (numbers (take i cases)) (numbers (drop i cases)) ≡ whole) where
  abbrev there : Bool
  there = list_any (eqb case.value) seen

  abbrev or_next : Bool → Option ℕ
  or_next b = cond {A = Option ℕ} b (Some case.value) (spec.repeated_after (numbers (take i cases) ++ case.value ∷ []) (numbers (drop (i + 1) cases)))

  opened : or_next there ≡ whole
  opened =
      let back : drop i cases ≡ case ∷ drop (i + 1) cases = drop_more cases i case within ∙ ap (λ (x : Case). x ∷ drop (i + 1) cases) (sym is) in
      let test : there ≡ spec.has_number (numbers (take i cases)) case.value = has-turned seen case.value ∙ ap (λ (l : List ℕ). spec.has_number l case.value) front in
      ap or_next test ∙ ap (λ (l : List Case). spec.repeated_after (numbers (take i cases)) (numbers l)) (sym back) ∙ so_far

  front_more : numbers (take (i + 1) cases) ≡ numbers (take i cases) ++ case.value ∷ []
  front_more = ap numbers (take_more cases i case within ∙ ap (λ (x : Case). take i cases ++ x ∷ []) (sym is)) ∙ map-append (λ (x : Case). x.value) (take i cases) (case ∷ [])

  turned : (b answer : Bool) → answer ≡ not there → answer ≡ not b → there ≡ b
  turned b answer is_new e = not-not there ∙ ap not (sym is_new ∙ e) ∙ sym (not-not b)
    where
      not-not : (b : Bool) → b ≡ not (not b)
      not-not true = refl
      not-not false = refl

  -- the case's number stood before
  pub old_number : (answer : Bool) → answer ≡ not there → answer ≡ false → Some case.value ≡ whole
  old_number answer is_new e = ap or_next (sym (turned true answer is_new e)) ∙ opened

  -- it is new
  pub new_number : (answer : Bool) (new : List ℕ) → answer ≡ not there → answer ≡ true → new ≡ cond there seen (seen ++ case.value ∷ [])
      → (new ≡ numbers (take (i + 1) cases)) × (spec.repeated_after (numbers (take (i + 1) cases)) (numbers (drop (i + 1) cases)) ≡ whole)
  new_number answer new is_new e after =
      let test : there ≡ false = turned false answer is_new e in (
        after ∙ ap (λ b. cond b seen (seen ++ case.value ∷ [])) test ∙ ap (λ (l : List ℕ). l ++ case.value ∷ []) front ∙ sym front_more,
        ap (λ (l : List ℕ). spec.repeated_after l (numbers (drop (i + 1) cases))) front_more ∙ ap or_next (sym test) ∙ opened,
      )
