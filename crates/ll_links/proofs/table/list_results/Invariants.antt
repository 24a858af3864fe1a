use Rattle.std.proofs.Common.{◌≡◌, take, map}
use Rattle.ll_items.specs.Sites.{Site, site_of}
use Rattle.ll_links.specs.Links.{result_of}
use Rattle.ll_links.proofs.table.list_results.Given as goal

abbrev pub invariant-loop-site : goal.invariant-loop-site
invariant-loop-site l = l.results.items ≡ map (λ (site : Site). result_of l.values site.what) (map site_of (take l.site-index l.items))
