-- The first item that breaks a rule stands in a block of its function.
use Rattle.std.proofs.Common.{◌≡◌, ◌<◌, Bool, List, [], ◌∷◌, ◌++◌, length, ℕ, sym, ◌∙◌, subst}
use Rattle.std.specs.Prelude.{All}
use Rattle.std.proofs.lemmas.List.Elements.{All-head, All-tail}
use Rattle.ll_tree.specs.declared.func.Func.{Func}
use Rattle.ll_items.specs.Sites.{Site, sites_of}
use Rattle.ll_item_rules.specs.First.{IsFirst}
use Rattle.ll_flow.proofs.SiteLaws.{IsBelow, all_below}

at_split : (count : ℕ) (before : List Site) (site : Site) (after : List Site) → All (IsBelow count) (before ++ site ∷ after) → site.block < count
at_split count [] site after h = All-head (IsBelow count) site after h
at_split count (first ∷ before) site after h = at_split count before site after (All-tail (IsBelow count) first (before ++ site ∷ after) h)

-- the first item that breaks a rule stands in a block of the function
pub first_below : (func : Func) (breaks : Site → Bool) (sites : List Site) (site : Site) → sites ≡ sites_of func → IsFirst breaks sites site → site.block < length func.blocks
first_below func breaks sites site same first =
    at_split (length func.blocks) first.before site first.after
    (subst (All (IsBelow (length func.blocks))) (sym same ∙ first.sites_are) (all_below func))
