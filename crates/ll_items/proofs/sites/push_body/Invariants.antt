use Rattle.std.proofs.Common.{◌≡◌, ◌+◌, ◌++◌, drop, map}
use Rattle.ll_rules.specs.Items.{OfInstr}
use Rattle.ll_items.specs.Sites.{sites_from}
use Rattle.ll_items.proofs.sites.push_body.Given as goal

abbrev pub invariant-loop-at : goal.invariant-loop-at
invariant-loop-at l = l.list ++ sites_from l.block (l.first + l.at) (map OfInstr (drop l.at l.body)) ≡ l.initial.list ++ sites_from l.block l.first (map OfInstr l.body)
