use Rattle.std.proofs.Common.{length}
use Rattle.clause_search.proofs.WatchLaws.{pair_listed}
use Rattle.clause_search.proofs.watches.list_pair.Goals as goal

pub returns-clause-listed : goal.returns-clause-listed
returns-clause-listed c =
    pair_listed c.list-2.result (length c.args.known.now.trail.ranges) c.list.new.lists c.list-2.new.lists c.args.number c.args.clause.now c.args.pair c.list-2.ensures.adds c.in_ok-list.ensures.listed c.list-2.ensures.listed
