use Rattle.std.proofs.Common.{arith}
use Rattle.bound_trail.specs.Trail.{box}
use Rattle.clause_search.proofs.LatestLaws.{are_false_next}
use Rattle.clause_search.proofs.watches.find_left.Goals as goal

-- src/watches.rt:359:5
pub loop-at-preserved : goal.loop-at-preserved
loop-at-preserved c =
    are_false_next (box c.args.trail.now) c.args.clause.now c.args.other c.loop-at.at (omega arith) c.loop-at.invariant (c.is_false.ensures.0 c.if-not-is_false.false)
