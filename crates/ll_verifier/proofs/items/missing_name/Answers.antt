use Rattle.std.specs.Prelude.{Bool, is_some}
use Rattle.ll_rules.specs.Items.{parts_of}
use Rattle.ll_items.specs.Sites.{Site, site_of}
use Rattle.ll_item_rules.specs.First.{IsFirst}
use Rattle.ll_item_rules.specs.Lacking as lacking
use Rattle.ll_verifier.proofs.SiteLaws.{first_below}
use Rattle.ll_verifier.proofs.items.missing_name.Goals as goal

pub spot-requires : goal.spot-requires
spot-requires c =
    let lacks : Site → Bool = λ site. is_some (lacking.lacking_name c.args.tables.now.values c.args.tables.now.labels (parts_of site.what)) in
    let first : IsFirst lacks c.args.tables.now.sites (site_of c.in-Some.site) = (rw c.in-Some.is at c.in_ok-site.ensures) in
    first_below c.args.func.now lacks c.args.tables.now.sites (site_of c.in-Some.site) c.requires.tables.sites first
