use Rattle.std.proofs.Common.{◌≡◌, ◌*◌, ◌++◌, replicate}
use Rattle.bound_trail.specs.Edges.{range_edges, no_edge}
use Rattle.bound_trail.proofs.made.edges_of.Given as goal

abbrev pub invariant-loop : goal.invariant-loop
invariant-loop l = l.edges.items ≡ range_edges l.ranges ++ replicate (2 * l.counter) no_edge
