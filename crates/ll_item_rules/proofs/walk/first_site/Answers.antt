use Rattle.std.proofs.Common.{◌∙◌, sym}
use Rattle.ll_item_rules.proofs.FirstLaws.{none_all, none_more, found}
use Rattle.ll_item_rules.proofs.walk.first_site.Goals as goal

pub returns-then-branch : goal.returns-then-branch
returns-then-branch g c = found (g.T.SiteTest.fails c.args.test.now) c.items-items.result.now c.loop-site.site-index c.site-item.result c.loop-site-test.true c.site-item.is c.args.sites.now c.items-items.ensures c.loop-site.invariant (sym c.in_ok-fails.ensures ∙ c.if-branch.true)

pub loop-site-preserved : goal.loop-site-preserved
loop-site-preserved g c = none_more (g.T.SiteTest.fails c.args.test.now) c.items-items.result.now c.loop-site.site-index c.site-item.result c.loop-site-test.true c.site-item.is c.loop-site.invariant (sym c.in_ok-fails.ensures ∙ c.if-branch.false)

pub returns : goal.returns
returns g c = none_all (g.T.SiteTest.fails c.args.test.now) c.items-items.result.now c.loop-site.site-index c.args.sites.now c.items-items.ensures c.loop-site-test.false c.loop-site.invariant
