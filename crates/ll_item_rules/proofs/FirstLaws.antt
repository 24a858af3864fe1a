-- The first item that breaks a rule, over a list of lent items.
use Rattle.std.proofs.Common.{◌≡◌, ◌<◌, ◌≤◌, ◌+◌, ℕ, Bool, true, false, List, [], ◌∷◌, ◌++◌, length, get_or, take, drop, map, sym, ◌∙◌, ap, subst, take-append-drop}
use Rattle.std.proofs.lemmas.List.{take_more, drop_more, take_all, map-append}
use Rattle.std.proofs.lemmas.List.Elements.{All-push, All-same}
use Rattle.ll_items.specs.declared.sites.SiteRef.{SiteRef}
use Rattle.ll_items.specs.Sites.{Site, site_of}
use Rattle.ll_item_rules.specs.First.{NoneFails, IsFirst}

abbrev lent : List SiteRef → List Site
lent items = map site_of items

module _ (fails : Site → Bool) (items : List SiteRef) (i : ℕ) where
  -- no item breaks the rule up to the end
  pub none_all : (sites : List Site) → lent items ≡ sites → length items ≤ i → NoneFails fails (lent (take i items)) → NoneFails fails sites
  none_all sites same over none = subst (NoneFails fails) (ap lent (take_all i items over) ∙ same) none

  module _ (item : SiteRef) (within : i < length items) (is : item ≡ get_or items i item) where
    -- nor with this one
    pub none_more : NoneFails fails (lent (take i items)) → fails (site_of item) ≡ false → NoneFails fails (lent (take (i + 1) items))
    none_more none keeps =
        let front : lent (take (i + 1) items) ≡ lent (take i items) ++ site_of item ∷ [] =
        ap lent (take_more items i item within ∙ ap (λ (x : SiteRef). take i items ++ x ∷ []) (sym is)) ∙ map-append site_of (take i items) (item ∷ []) in
        All-same (λ (site : Site). fails site ≡ false) (lent (take (i + 1) items)) (lent (take i items) ++ site_of item ∷ []) front
        (All-push (λ (site : Site). fails site ≡ false) (lent (take i items)) (site_of item) none keeps)

    -- this one does
    pub found : (sites : List Site) → lent items ≡ sites → NoneFails fails (lent (take i items)) → fails (site_of item) ≡ true → IsFirst fails sites (site_of item)
    found sites same none breaks =
        let back : drop i items ≡ item ∷ drop (i + 1) items = drop_more items i item within ∙ ap (λ (x : SiteRef). x ∷ drop (i + 1) items) (sym is) in
        record {
          before = lent (take i items);
          after = lent (drop (i + 1) items);
          sites_are = sym same ∙ ap lent (sym (take-append-drop i items) ∙ ap (λ (l : List SiteRef). take i items ++ l) back) ∙ map-append site_of (take i items) (item ∷ drop (i + 1) items);
          fails_here = breaks;
          none_before = none;
        }
