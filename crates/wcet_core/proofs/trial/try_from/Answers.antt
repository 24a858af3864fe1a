use Rattle.std.proofs.Common.{arith}
use Rattle.wcet_core.proofs.PlaceLaws.{place-below}
use Rattle.wcet_core.proofs.trial.try_from.Goals as goal

pub loop-machine-smaller : goal.loop-machine-smaller
loop-machine-smaller g c = omega (arith, c.loop-machine-test.ensures.next, place-below c.args.widths.now c.advance.new.args c.loop-machine-test.ensures.are)
