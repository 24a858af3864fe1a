use Rattle.std.proofs.Common.{length}
use Rattle.mix_system.specs.System.{IsClause}
use Rattle.mix_system.proofs.WellFormedLaws.{All-slice_get}
use Rattle.clause_search.proofs.clause_trail.ClauseTrail.clause.Goals as goal

pub returns-clause-clause : goal.returns-clause-clause
returns-clause-clause c =
    let it = c.self.inside in
    rw (← c.self.view_is) (All-slice_get (IsClause (length it.trail.ranges) it.trail.rows) it.clauses c.args.at c.get.result.now c.get.ensures c.self.invariant.clauses.each)
