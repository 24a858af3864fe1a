use Rattle.std.proofs.Common.{take, map}
use Rattle.ll_items.specs.Sites.{site_of}
use Rattle.ll_item_rules.specs.First.{NoneFails}
use Rattle.ll_item_rules.proofs.walk.first_site.Given as goal

abbrev pub invariant-loop-site : goal.invariant-loop-site
invariant-loop-site g l = NoneFails (g.T.SiteTest.fails l.test) (map site_of (take l.site-index l.items))
