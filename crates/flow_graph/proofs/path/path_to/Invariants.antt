use Rattle.std.proofs.Common.{◌≡◌, ◌<◌, true, false, length, get_or, reverse}
use Rattle.flow_graph.specs.Paths.{Leads}
use Rattle.flow_graph.proofs.path.path_to.Given as goal

abbrev pub invariant-loop-at : goal.invariant-loop-at
invariant-loop-at l = record {
  within : l.at < length l.reached;
  marked : get_or l.reached l.at false ≡ true;
  leads : Leads l.edges l.without l.at (reverse l.path.items) l.to;
}

abbrev pub decreases-loop-at : goal.decreases-loop-at
decreases-loop-at l = l.at
