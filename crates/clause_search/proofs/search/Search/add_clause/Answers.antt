use Rattle.clause_search.proofs.WatchLaws.{watched_added}
use Rattle.clause_search.proofs.search.Search.add_clause.Goals as goal

-- src/search.rt:57:5
pub invariant_of-self : goal.invariant_of-self
invariant_of-self c =
    let it = c.self.inside in
    watched_added c.add_clause.result it.known c.add_clause.new.self c.args.lits.now it.watches.lists it.watches.pairs.items it.watches.head it.watches.base c.add_clause.ensures.ok c.add_clause.ensures.err c.self.invariant
