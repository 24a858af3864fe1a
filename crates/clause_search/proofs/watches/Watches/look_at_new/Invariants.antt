use Rattle.std.proofs.Common.{length, ◌-◌}
use Rattle.clause_search.specs.Search.{Propagated}
use Rattle.clause_search.specs.Watched.{IsRight}
use Rattle.clause_search.proofs.watches.Watches.look_at_new.Given as goal

abbrev pub invariant-loop-self : goal.invariant-loop-self
invariant-loop-self l = record {
  right : IsRight l.known l.self;
  propagated : Propagated l.initial.known l.known l.initial.tally l.tally;
}

abbrev pub decreases-loop-self : goal.decreases-loop-self
decreases-loop-self l = length l.known.store - length l.self.pairs.items
