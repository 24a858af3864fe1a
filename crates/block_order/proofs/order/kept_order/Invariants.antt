use Rattle.std.proofs.Common.{◌≡◌, length}
use Rattle.block_order.proofs.TakingLaws.{Taken, left_of}
use Rattle.block_order.proofs.order.kept_order.Given as goal

abbrev pub invariant-loop-block : goal.invariant-loop-block
invariant-loop-block l = record {
  taken : Taken l.blocks l.edges l.taken.items l.order.items;
  room : length l.blocked.items ≡ length l.taken.items;
}

abbrev pub decreases-loop-block : goal.decreases-loop-block
decreases-loop-block l = left_of l.taken.items
