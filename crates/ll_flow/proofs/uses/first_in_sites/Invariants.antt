use Rattle.std.proofs.Common.{map, take}
use Rattle.std.specs.Prelude.{All}
use Rattle.std.specs.List.{flat_map}
use Rattle.ll_items.specs.Sites.{site_of}
use Rattle.ll_flow.specs.Uses.{IsDefined, site_uses}
use Rattle.ll_flow.proofs.uses.first_in_sites.Given as goal

abbrev pub invariant-loop-site : goal.invariant-loop-site
invariant-loop-site l = All (IsDefined l.uses.func.now) (flat_map (site_uses l.uses.func.now) (take l.site-index (map site_of l.sites)))
