use Rattle.std.proofs.Common.{◌≡◌, [], take, map}
use Rattle.ll_items.specs.Sites.{Site, site_of}
use Rattle.ll_links.specs.Links.{known_blocks}
use Rattle.ll_links.proofs.table.list_blocks.Given as goal

abbrev pub invariant-loop-site : goal.invariant-loop-site
invariant-loop-site l = record {
  closed : l.lists.0 ≡ map (λ (site : Site). known_blocks l.labels site.what) (map site_of (take l.site-index l.items));
  open_list : l.lists.1 ≡ [];
}
