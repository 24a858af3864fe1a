use Rattle.std.proofs.Common.{◌≡◌, length}
use Rattle.block_order.proofs.BlockingLaws.{Blocked}
use Rattle.block_order.proofs.ready.mark_blocked.Given as goal

abbrev pub invariant-loop-edge : goal.invariant-loop-edge
invariant-loop-edge l = record {
  blocked : Blocked l.edges l.taken l.edge-index l.blocked;
  room : length l.blocked ≡ length l.taken;
}
