use Rattle.std.proofs.Common.{◌≡◌, ◌++◌, map, drop}
use Rattle.std.specs.List.{flat_map}
use Rattle.ll_items.specs.Sites.{site_of}
use Rattle.ll_flow.specs.Homes as spec
use Rattle.ll_flow.proofs.homes.push_sites.Given as goal

abbrev pub invariant-loop-site : goal.invariant-loop-site
invariant-loop-site l = l.homes ++ map (λ home. home.1) (flat_map spec.site_homes (map site_of (drop l.site-index l.sites))) ≡ l.initial.homes ++ map (λ home. home.1) (flat_map spec.site_homes (map site_of l.sites))
