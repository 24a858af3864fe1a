use Rattle.std.proofs.Common.{◌≡◌, take, map}
use Rattle.ll_verifier.specs.Order.{position_edge}
use Rattle.ll_verifier.proofs.order.list_edges.Given as goal

abbrev pub invariant-loop-edge : goal.invariant-loop-edge
invariant-loop-edge l = l.list.items ≡ map position_edge (take l.edge-index l.edges)
