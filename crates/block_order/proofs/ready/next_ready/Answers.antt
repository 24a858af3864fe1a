use Rattle.std.proofs.Common.{arith}
use Rattle.block_order.proofs.BlockingLaws.{next_from_open}
use Rattle.block_order.proofs.ready.next_ready.Goals as goal

pub returns : goal.returns
returns c =
    next_from_open c.args.edges.now c.args.taken.now c.mark_blocked.new.blocked (omega (arith, c.mark_blocked.auto.blocked, c.requires.room)) c.mark_blocked.ensures c.first_open.result c.first_open.ensures
