use Rattle.block_order.proofs.TakingLaws.{left_of}
use Rattle.block_order.proofs.WalkLaws.{Walked}
use Rattle.block_order.proofs.cycle.walk_back.Given as goal

abbrev pub invariant-loop-seen : goal.invariant-loop-seen
invariant-loop-seen l = Walked l.edges l.taken l.seen.items l.walk.items l.at

abbrev pub decreases-loop-seen : goal.decreases-loop-seen
decreases-loop-seen l = left_of l.seen.items
