use Rattle.std.proofs.Common.{◌≡◌, ◌++◌, drop, map}
use Rattle.ll_items.specs.Parts.{part_of}
use Rattle.ll_edges.specs.Graph as spec
use Rattle.ll_edges.proofs.graph.push_edges.Given as goal

abbrev pub invariant-loop-part : goal.invariant-loop-part
invariant-loop-part l = l.graph ++ spec.edges_from l.labels l.from (map part_of (drop l.part-index l.parts)) ≡ l.initial.graph ++ spec.edges_from l.labels l.from (map part_of l.parts)
