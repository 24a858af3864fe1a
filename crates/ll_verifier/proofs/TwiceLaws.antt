-- The first name that is given twice is one.
use Rattle.std.proofs.Common.{◌≡◌, ◌<◌, ◌+◌, ⊎_elim, ℕ, List, [], ◌∷◌, ◌++◌, length, get_or, take, drop, sym, ◌∙◌, ap, subst, arith, take-append-drop}
use Rattle.std.specs.Prelude.{Contains}
use Rattle.std.proofs.lemmas.Bool.{cases_order}
use Rattle.std.proofs.lemmas.List.{drop_more, length-take-le, take-take, get_or-take}
use Rattle.name_table.specs.Names.{AreDifferent, IsFirstRepeat}
use Rattle.name_table.proofs.DifferentLaws.{different-next}
use Rattle.ll_flow.proofs.PlaceLaws.{absent}

pub repeat_fails : (names : List (List ℕ)) (at : ℕ) → at < length names → Contains (take at names) (get_or names at []) → AreDifferent names → ⊥
repeat_fails names at within again different =
    let left : drop at names ≡ get_or names at [] ∷ drop (at + 1) names = drop_more names at [] within in
    let whole : names ≡ take at names ++ get_or names at [] ∷ drop (at + 1) names = sym (take-append-drop at names) ∙ ap (λ (l : List (List ℕ)). take at names ++ l) left in
    absent (get_or names at []) (take at names)
    (different-next (take at names) (get_or names at []) (drop (at + 1) names) (subst AreDifferent whole different)) again

module _ (names : List (List ℕ)) where
  not_before : (at other : ℕ) → IsFirstRepeat names at → IsFirstRepeat names other → at < other → ⊥
  not_before at other first also less =
      let size : length (take other names) ≡ other = length-take-le other names (omega (arith, also.within)) in
      let front : take at (take other names) ≡ take at names = take-take at other names (omega (arith, less)) in
      let here : get_or (take other names) at [] ≡ get_or names at [] = get_or-take other names at [] less in
      repeat_fails (take other names) at (omega (arith, size, less))
      (subst (λ (l : List (List ℕ)). Contains l (get_or (take other names) at [])) (sym front)
      (subst (Contains (take at names)) (sym here) first.again))
      also.first

  pub one_repeat : (at other : ℕ) → IsFirstRepeat names at → IsFirstRepeat names other → at ≡ other
  one_repeat at other first also =
      ⊎_elim
      (λ same. same)
      (λ apart. ⊎_elim
      (λ less. absurd (not_before at other first also less))
      (λ more. absurd (not_before other at also first more))
      apart)
      (cases_order at other)
