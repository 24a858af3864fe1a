use Rattle.std.specs.List.{AllWithin}
use Rattle.block_order.proofs.WalkLaws.{IsOther}
use Rattle.block_order.proofs.cycle.left_before.Given as goal

abbrev pub invariant-loop-edge : goal.invariant-loop-edge
invariant-loop-edge l = AllWithin (IsOther l.at l.taken) l.edges 0 l.edge-index
