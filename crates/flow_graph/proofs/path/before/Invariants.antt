use Rattle.std.specs.List.{AllWithin}
use Rattle.flow_graph.proofs.BackwardLaws.{IsOther}
use Rattle.flow_graph.proofs.path.before.Given as goal

abbrev pub invariant-loop-edge : goal.invariant-loop-edge
invariant-loop-edge l = AllWithin (IsOther l.without l.at l.reached) l.edges 0 l.edge-index
