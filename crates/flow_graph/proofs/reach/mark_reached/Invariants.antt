use Rattle.flow_graph.proofs.MarkingLaws.{Marked}
use Rattle.std.proofs.Common.{length}
use Rattle.flow_graph.proofs.reach.mark_reached.Given as goal

abbrev pub invariant-loop-edge : goal.invariant-loop-edge
invariant-loop-edge l = Marked l.edges l.entry l.without (length l.reached) l.edge-index l.reached
