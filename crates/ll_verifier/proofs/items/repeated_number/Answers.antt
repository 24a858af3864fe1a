use Rattle.ll_items.specs.Sites.{site_of}
use Rattle.ll_item_rules.specs.First.{IsFirst}
use Rattle.ll_verifier.specs.Rules.{repeats_case}
use Rattle.ll_verifier.proofs.SiteLaws.{first_below}
use Rattle.ll_verifier.proofs.items.repeated_number.Goals as goal

pub spot-requires : goal.spot-requires
spot-requires c =
    let first : IsFirst repeats_case c.args.tables.now.sites (site_of c.in-Some.site) = (rw c.in-Some.is at c.in_ok-site.ensures) in
    first_below c.args.func.now repeats_case c.args.tables.now.sites (site_of c.in-Some.site) c.requires.tables.sites first
