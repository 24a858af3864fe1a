use Rattle.std.proofs.Common.{arith}
use Rattle.bound_trail.specs.Trail.{box}
use Rattle.clause_search.proofs.LatestLaws.{never_at}
use Rattle.clause_search.proofs.clause_trail.ClauseTrail.latest_two.Goals as goal

-- src/pairs.rt:90:9
pub loop-at-preserved : goal.loop-at-preserved
loop-at-preserved c =
    let bounds = box c.args.self.now.trail in
    let clause = c.args.clause.now in
    c.with-latest.ensures bounds clause c.loop-at.invariant (never_at bounds clause c.loop-at.at c.falls.result (omega arith) c.falls.ensures.never)
