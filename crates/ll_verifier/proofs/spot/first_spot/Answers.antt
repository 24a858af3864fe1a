use Rattle.ll_items.specs.Sites.{site_of}
use Rattle.ll_item_rules.specs.First.{IsFirst}
use Rattle.ll_verifier.proofs.SiteLaws.{first_below}
use Rattle.ll_verifier.proofs.spot.first_spot.Goals as goal

pub spot-requires : goal.spot-requires
spot-requires g c =
    let first : IsFirst (g.T.SiteTest.fails c.args.test.now) c.args.sites.now (site_of c.in-Some.site) = (rw c.in-Some.is at c.in_ok-site.ensures) in
    first_below c.args.func.now (g.T.SiteTest.fails c.args.test.now) c.args.sites.now (site_of c.in-Some.site) c.requires first
