-- The first of a list that breaks a rule.
use Rattle.std.proofs.Common.{◌≡◌, Bool, true, false, List, [], ◌∷◌, ◌++◌, get_or, drop, sym, ◌∙◌, ap, subst}
use Rattle.std.specs.Prelude.{All}
use Rattle.std.proofs.lemmas.Bool.{both_ways}
use Rattle.std.proofs.lemmas.List.Elements.{All-head, All-tail, All-same}
use Rattle.ll_items.specs.Sites.{Site}
use Rattle.ll_item_rules.specs.First.{NoneFails, IsFirst}

module _ {A : Type 0} (Keeps : A → Type 0) where
  -- not all of a list keep a rule that one of them breaks
  pub broken_there : (before : List A) (it : A) (after : List A) → ¬ Keeps it → All Keeps (before ++ it ∷ after) → ⊥
  broken_there [] it after breaks all = breaks (All-head Keeps it after all)
  broken_there (first ∷ before) it after breaks all = broken_there before it after breaks (All-tail Keeps first (before ++ it ∷ after) all)

  -- only one is the first
  pub one_first : (before others : List A) (it other : A) (after rest : List A) → before ++ it ∷ after ≡ others ++ other ∷ rest → ¬ Keeps it → ¬ Keeps other → All Keeps before → All Keeps others → it ≡ other
  one_first [] [] it other after rest e breaks also kept also_kept = ap (λ (l : List A). get_or l 0 it) e
  one_first [] (x ∷ others) it other after rest e breaks also kept also_kept =
      absurd (breaks (subst Keeps (sym (ap (λ (l : List A). get_or l 0 it) e)) (All-head Keeps x others also_kept)))
  one_first (x ∷ before) [] it other after rest e breaks also kept also_kept =
      absurd (also (subst Keeps (ap (λ (l : List A). get_or l 0 x) e) (All-head Keeps x before kept)))
  one_first (x ∷ before) (y ∷ others) it other after rest e breaks also kept also_kept =
      one_first before others it other after rest (ap (drop 1) e) breaks also (All-tail Keeps x before kept) (All-tail Keeps y others also_kept)

module _ (fails : Site → Bool) (sites : List Site) where
  abbrev Keeps : Site → Type 0
  Keeps site = fails site ≡ false

  fails_not : (site : Site) → fails site ≡ true → Keeps site → ⊥
  fails_not site is kept = both_ways (fails site) kept is

  pub first_fails : (site : Site) → IsFirst fails sites site → NoneFails fails sites → ⊥
  first_fails site first none =
      broken_there Keeps first.before site first.after (fails_not site first.fails_here)
      (All-same Keeps (first.before ++ site ∷ first.after) sites (sym first.sites_are) none)

  pub one_site : (site other : Site) → IsFirst fails sites site → IsFirst fails sites other → site ≡ other
  one_site site other first also =
      one_first Keeps first.before also.before site other first.after also.after (sym first.sites_are ∙ also.sites_are)
      (fails_not site first.fails_here) (fails_not other also.fails_here) first.none_before also.none_before
