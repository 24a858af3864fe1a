use Rattle.std.proofs.Common.{◌≡◌, ◌++◌, drop}
use Rattle.ll_items.specs.Sites.{sites_in, sites_of}
use Rattle.ll_items.proofs.sites.list_sites.Given as goal

abbrev pub invariant-loop-at : goal.invariant-loop-at
invariant-loop-at l = l.list ++ sites_in l.at (drop l.at l.func.blocks) ≡ sites_of l.func
