use Rattle.std.proofs.Common.{◌≡◌, take, map}
use Rattle.sound_costs.specs.Edges.{placed}
use Rattle.sound_costs.proofs.edges.placed_edges.Given as goal

abbrev pub invariant-loop-edge : goal.invariant-loop-edge
invariant-loop-edge l = l.list.items ≡ map (placed l.order) (take l.edge-index l.edges)
