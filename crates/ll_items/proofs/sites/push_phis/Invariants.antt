use Rattle.std.proofs.Common.{◌≡◌, ◌++◌, drop, map}
use Rattle.ll_rules.specs.Items.{OfPhi}
use Rattle.ll_items.specs.Sites.{sites_from}
use Rattle.ll_items.proofs.sites.push_phis.Given as goal

abbrev pub invariant-loop-at : goal.invariant-loop-at
invariant-loop-at l = l.list ++ sites_from l.block l.at (map OfPhi (drop l.at l.phis)) ≡ l.initial.list ++ sites_from l.block 0 (map OfPhi l.phis)
