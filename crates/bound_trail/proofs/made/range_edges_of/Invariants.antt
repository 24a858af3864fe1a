use Rattle.std.proofs.Common.{◌≡◌, take}
use Rattle.bound_trail.specs.Edges.{range_edges}
use Rattle.bound_trail.proofs.made.range_edges_of.Given as goal

abbrev pub invariant-loop-low : goal.invariant-loop-low
invariant-loop-low l = l.edges.items ≡ range_edges (take l.low-index l.ranges)
