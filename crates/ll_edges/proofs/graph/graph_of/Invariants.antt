use Rattle.std.proofs.Common.{◌≡◌, ◌++◌, drop}
use Rattle.ll_edges.specs.Graph as spec
use Rattle.ll_edges.proofs.graph.graph_of.Given as goal

abbrev pub invariant-loop-at : goal.invariant-loop-at
invariant-loop-at l = l.graph ++ spec.edges_in l.labels l.at (drop l.at l.blocks) ≡ spec.edges_in l.labels 0 l.blocks
