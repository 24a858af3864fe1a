use Rattle.std.proofs.Common.{◌^◌, ◌≡◌, length, ◌-◌}
use Rattle.clause_search.specs.Search.{Propagated}
use Rattle.clause_search.specs.Watched.{IsRight}
use Rattle.clause_search.proofs.watches.Watches.propagate.Given as goal

abbrev pub invariant-loop-self : goal.invariant-loop-self
invariant-loop-self l = record {
  right : IsRight l.known l.self;
  propagated : Propagated l.initial.known l.known l.initial.tally l.tally;
  all : length l.self.pairs.items ≡ length l.known.store;
}

abbrev pub decreases-loop-self : goal.decreases-loop-self
decreases-loop-self l = 2 ^ 32 - l.self.head
