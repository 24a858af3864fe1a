-- The clause of a number among steps whose numbers rise.
use Rattle.std.proofs.Common.{◌≡◌, ◌≢◌, ◌+◌, ◌<◌, ◌≤◌, ℕ, suc, zero, List, [], ◌∷◌, length, take, get_or, true, false, Option, Some, None, refl, sym, ◌∙◌, ap, subst, inl, inr, ⊎_elim, arith, All}
use Rattle.std.specs.Prelude.{◌==◌}
use Rattle.std.specs.List.{AllPairs}
use Rattle.std.proofs.lemmas.Bool.{cases_Bool, cases_lt}
use Rattle.std.proofs.lemmas.Bool.Decides.{nat_tests}
use Rattle.std.proofs.lemmas.List.{get_or_default, take_all}
use Rattle.mix_system.specs.declared.literal.Lit.{Lit}
use Rattle.proof_term.specs.Levels.{Finished, clause_of}
use Rattle.open_levels.specs.Flat.{Rises, IsAt}
use Rattle.open_levels.proofs.LevelLaws.{newest_of, newest_more, cuts_in, clause_here, clause_later, cut_here, cut_later}

newest_next : (steps : List Finished) (n : ℕ) (d : Finished) → n < length steps → newest_of (take (suc n) steps) ≡ get_or steps n d ∷ newest_of (take n steps)
newest_next steps n d within =
    let next : suc n ≡ n + 1 = omega arith in
    ap (λ k. newest_of (take k steps)) next ∙ newest_more steps n d within

-- a step with another number changes nothing, whether it is a cut or not
cut_passed : (number : ℕ) (f : Finished) (fs : List Finished) → (f.number == number) ≡ false → clause_of number (cuts_in (f ∷ fs)) ≡ clause_of number (cuts_in fs)
cut_passed number f fs other = elim (cases_Bool f.is_cut) [
  | inl is ↦ ap (clause_of number) (cut_here f fs is) ∙ clause_later number f (cuts_in fs) other
  | inr not ↦ ap (clause_of number) (cut_later f fs not)
]

module _ (steps : List Finished) (number : ℕ) where
  -- up to a place no step has the number
  abbrev OthersTo : ℕ → Type 0
  OthersTo n = (k : ℕ) (d : Finished) → k < n → k < length steps → (get_or steps k d).number ≢ number

  none_to : (n : ℕ) (d : Finished) → n ≤ length steps → OthersTo n → (clause_of number (newest_of (take n steps)) ≡ None) × (clause_of number (cuts_in (newest_of (take n steps))) ≡ None)
  none_to zero d within others = (refl, refl)
  none_to (suc n) d within others =
      let rest = none_to n d (omega (arith, within)) (λ k e before has. others k e (omega (arith, before)) has) in
      let f = get_or steps n d in
      let apart : (get_or steps n d).number ≢ number = others n d (omega arith) (omega (arith, within)) in
      let test : (f.number == number) ≡ false = grind (arith, nat_tests) in
      let more = newest_next steps n d (omega (arith, within)) in (
        ap (clause_of number) more ∙ clause_later number f (newest_of (take n steps)) test ∙ rest.0,
        ap (λ (fs : List Finished). clause_of number (cuts_in fs)) more ∙ cut_passed number f (newest_of (take n steps)) test ∙ rest.1,
      )

  module _ (rising : AllPairs Rises steps) (at : ℕ) (d : Finished) (has : at < length steps) (is : (get_or steps at d).number ≡ number) where
    others_before : OthersTo at
    others_before k e before within =
        let less : (get_or steps k e).number < (get_or steps at e).number = rising k at e before has in
        let here : (get_or steps at e).number ≡ number = subst (λ (x : Finished). x.number ≡ number) (get_or_default steps at d e has) is in
        λ same. absurd (omega (arith, less, here, same))

    others_behind : (n : ℕ) → at < n → n < length steps → (get_or steps n d).number ≢ number
    others_behind n behind within =
        let less : (get_or steps at d).number < (get_or steps n d).number = rising at n d behind within in
        λ same. absurd (omega (arith, less, is, same))

    found_to : (n : ℕ) → at < n → n ≤ length steps → clause_of number (newest_of (take n steps)) ≡ Some (get_or steps at d).clause
    found_to zero before within = absurd (omega (arith, before))
    found_to (suc n) before within =
        let f = get_or steps n d in
        let more = ap (clause_of number) (newest_next steps n d (omega (arith, within))) in
        ⊎_elim
        (λ (lt : at < n).
        let apart : (get_or steps n d).number ≢ number = others_behind n lt (omega (arith, within)) in
        let test : (f.number == number) ≡ false = grind (arith, nat_tests) in
        more ∙ clause_later number f (newest_of (take n steps)) test ∙ found_to n lt (omega (arith, within)))
        (λ (le : n ≤ at).
        let same : n ≡ at = omega (arith, le, before) in
        let here : (get_or steps n d).number ≡ number = subst (λ k. (get_or steps k d).number ≡ number) (sym same) is in
        let test : (f.number == number) ≡ true = grind (arith, nat_tests) in
        more ∙ clause_here number f (newest_of (take n steps)) test ∙ ap (λ k. Some (get_or steps k d).clause) same)
        (cases_lt at n)

    cut_found_to : (n : ℕ) → at < n → n ≤ length steps → (get_or steps at d).is_cut ≡ true → clause_of number (cuts_in (newest_of (take n steps))) ≡ Some (get_or steps at d).clause
    cut_found_to zero before within cut = absurd (omega (arith, before))
    cut_found_to (suc n) before within cut =
        let f = get_or steps n d in
        let more = ap (λ (fs : List Finished). clause_of number (cuts_in fs)) (newest_next steps n d (omega (arith, within))) in
        ⊎_elim
        (λ (lt : at < n).
        let apart : (get_or steps n d).number ≢ number = others_behind n lt (omega (arith, within)) in
        let test : (f.number == number) ≡ false = grind (arith, nat_tests) in
        more ∙ cut_passed number f (newest_of (take n steps)) test ∙ cut_found_to n lt (omega (arith, within)) cut)
        (λ (le : n ≤ at).
        let same : n ≡ at = omega (arith, le, before) in
        let here : (get_or steps n d).number ≡ number = subst (λ k. (get_or steps k d).number ≡ number) (sym same) is in
        let is_one : (get_or steps n d).is_cut ≡ true = subst (λ k. (get_or steps k d).is_cut ≡ true) (sym same) cut in
        let test : (f.number == number) ≡ true = grind (arith, nat_tests) in
        more ∙ ap (clause_of number) (cut_here f (newest_of (take n steps)) is_one) ∙ clause_here number f (cuts_in (newest_of (take n steps))) test
        ∙ ap (λ k. Some (get_or steps k d).clause) same)
        (cases_lt at n)

    no_cut_to : (n : ℕ) → at < n → n ≤ length steps → (get_or steps at d).is_cut ≡ false → clause_of number (cuts_in (newest_of (take n steps))) ≡ None
    no_cut_to zero before within other = absurd (omega (arith, before))
    no_cut_to (suc n) before within other =
        let f = get_or steps n d in
        let more = ap (λ (fs : List Finished). clause_of number (cuts_in fs)) (newest_next steps n d (omega (arith, within))) in
        ⊎_elim
        (λ (lt : at < n).
        let apart : (get_or steps n d).number ≢ number = others_behind n lt (omega (arith, within)) in
        let test : (f.number == number) ≡ false = grind (arith, nat_tests) in
        more ∙ cut_passed number f (newest_of (take n steps)) test ∙ no_cut_to n lt (omega (arith, within)) other)
        (λ (le : n ≤ at).
        let same : at ≡ n = omega (arith, le, before) in
        let is_none : (get_or steps n d).is_cut ≡ false = subst (λ k. (get_or steps k d).is_cut ≡ false) same other in
        more ∙ ap (clause_of number) (cut_later f (newest_of (take n steps)) is_none) ∙ (none_to n d (omega (arith, within)) (subst OthersTo same others_before)).1)
        (cases_lt at n)

-- the same of all steps

whole : (steps : List Finished) → take (length steps) steps ≡ steps
whole steps = take_all (length steps) steps (omega arith)

pub none_has : (steps : List Finished) (number : ℕ) (d : Finished) → All (λ step. step.number ≢ number) steps
    → (clause_of number (newest_of steps) ≡ None) × (clause_of number (cuts_in (newest_of steps)) ≡ None)
none_has steps number d all =
    subst (λ (xs : List Finished). (clause_of number (newest_of xs) ≡ None) × (clause_of number (cuts_in (newest_of xs)) ≡ None)) (whole steps)
    (none_to steps number (length steps) d (omega arith) (λ k e before within. all k e within))

module _ (steps : List Finished) (number : ℕ) (rising : AllPairs Rises steps) (at : ℕ) (d : Finished) (found : IsAt steps number at) where
  pub clause_found : clause_of number (newest_of steps) ≡ Some (get_or steps at d).clause
  clause_found =
      subst (λ (xs : List Finished). clause_of number (newest_of xs) ≡ Some (get_or steps at d).clause) (whole steps)
      (found_to steps number rising at d found.0 (found.1 d) (length steps) found.0 (omega arith))

  pub cut_found : (get_or steps at d).is_cut ≡ true → clause_of number (cuts_in (newest_of steps)) ≡ Some (get_or steps at d).clause
  cut_found cut =
      subst (λ (xs : List Finished). clause_of number (cuts_in (newest_of xs)) ≡ Some (get_or steps at d).clause) (whole steps)
      (cut_found_to steps number rising at d found.0 (found.1 d) (length steps) found.0 (omega arith) cut)

  pub no_cut_found : (get_or steps at d).is_cut ≡ false → clause_of number (cuts_in (newest_of steps)) ≡ None
  no_cut_found other =
      subst (λ (xs : List Finished). clause_of number (cuts_in (newest_of xs)) ≡ None) (whole steps)
      (no_cut_to steps number rising at d found.0 (found.1 d) (length steps) found.0 (omega arith) other)
