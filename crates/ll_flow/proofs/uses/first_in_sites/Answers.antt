use Rattle.std.proofs.Common.{◌≡◌, length, map, false, sym, subst}
use Rattle.std.specs.Option.{is_some}
use Rattle.std.proofs.lemmas.List.Elements.{All-get_or}
use Rattle.ll_rules.specs.Items.{parts_of}
use Rattle.ll_item_rules.specs.Lacking.{lacking_name}
use Rattle.ll_items.specs.Sites.{Site, site_of}
use Rattle.ll_flow.specs.Uses.{site_uses}
use Rattle.ll_flow.proofs.FindLaws.{mapped, mapped_end, all_keep, one_more, found_here}
use Rattle.ll_flow.proofs.SiteLaws.{IsBelow}
use Rattle.ll_flow.proofs.uses.first_in_sites.Goals as goal

pub returns-in-Some : goal.returns-in-Some
returns-in-Some c =
    let at = mapped site_of c.args.sites.now c.loop-site.site-index c.site-item.result c.loop-site-test.true c.site-item.is in
    found_here c.args.uses.now (site_uses c.args.uses.now.func.now) (map site_of c.args.sites.now) c.loop-site.site-index (site_of c.site-item.result) at.0 at.1 c.in-Some.found c.loop-site.invariant (rw c.in-Some.is at c.first_in_site.ensures)

pub loop-site-preserved : goal.loop-site-preserved
loop-site-preserved c =
    let at = mapped site_of c.args.sites.now c.loop-site.site-index c.site-item.result c.loop-site-test.true c.site-item.is in
    one_more c.args.uses.now (site_uses c.args.uses.now.func.now) (map site_of c.args.sites.now) c.loop-site.site-index (site_of c.site-item.result) at.0 at.1 c.loop-site.invariant (rw c.in-None.is at c.first_in_site.ensures)

pub returns : goal.returns
returns c =
    all_keep c.args.uses.now (site_uses c.args.uses.now.func.now) (map site_of c.args.sites.now) c.loop-site.site-index (mapped_end site_of c.args.sites.now c.loop-site.site-index c.loop-site-test.false) c.loop-site.invariant

pub first_in_site-requires-clause-within : goal.first_in_site-requires-clause-within
first_in_site-requires-clause-within c =
    let at = mapped site_of c.args.sites.now c.loop-site.site-index c.site-item.result c.loop-site-test.true c.site-item.is in
    subst (IsBelow (length c.args.uses.now.func.now.blocks)) (sym at.1) (All-get_or (IsBelow (length c.args.uses.now.func.now.blocks)) (map site_of c.args.sites.now) c.loop-site.site-index (site_of c.site-item.result) at.0 c.requires.within)

pub first_in_site-requires-clause-named : goal.first_in_site-requires-clause-named
first_in_site-requires-clause-named c =
    let at = mapped site_of c.args.sites.now c.loop-site.site-index c.site-item.result c.loop-site-test.true c.site-item.is in
    let values = c.args.uses.now.values.now in
    let labels = c.args.uses.now.labels.now in
    subst (λ (site : Site). is_some (lacking_name values labels (parts_of site.what)) ≡ false) (sym at.1) (All-get_or (λ (site : Site). is_some (lacking_name values labels (parts_of site.what)) ≡ false) (map site_of c.args.sites.now) c.loop-site.site-index (site_of c.site-item.result) at.0 c.requires.named)
