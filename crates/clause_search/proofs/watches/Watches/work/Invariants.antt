use Rattle.std.proofs.Common.{length, ◌-◌}
use Rattle.clause_search.specs.Watched.{list_at}
use Rattle.clause_search.specs.Visited.{IsVisiting, Goes}
use Rattle.clause_search.proofs.watches.Watches.work.Given as goal

abbrev pub invariant-loop-at : goal.invariant-loop-at
invariant-loop-at l = record {
  goes : Goes l.initial.known l.known l.initial.self l.self l.initial.tally l.tally;
  visiting : IsVisiting l.known l.self l.key l.list l.at;
}

abbrev pub decreases-loop-at : goal.decreases-loop-at
decreases-loop-at l = length (list_at l.self.lists l.list) - l.at
