-- The first item that breaks a rule.
use Rattle.std.specs.Prelude.{◌≡◌, Bool, true, false, List, ◌∷◌, ◌++◌, All}
use Rattle.ll_items.specs.Sites.{Site}

-- no item breaks it
abbrev pub NoneFails : (Site → Bool) → List Site → Type 0
NoneFails fails sites = All (λ (site : Site). fails site ≡ false) sites

-- this item breaks it, and none before it does
pub record IsFirst (fails : Site → Bool) (sites : List Site) (site : Site) : Type 0 where
  pub before : List Site
  pub after : List Site
  pub sites_are : sites ≡ before ++ site ∷ after
  pub fails_here : fails site ≡ true
  pub none_before : NoneFails fails before
