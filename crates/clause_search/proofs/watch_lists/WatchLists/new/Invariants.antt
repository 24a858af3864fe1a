use Rattle.std.proofs.Common.{◌≡◌, [], length, Vec, Global}
use Rattle.std.specs.Prelude.{All}
use Rattle.clause_search.specs.declared.watch_lists.Watcher.{Watcher}
use Rattle.clause_search.proofs.watch_lists.WatchLists.new.Given as goal

abbrev pub invariant-loop : goal.invariant-loop
invariant-loop l =
    (length l.lists.items ≡ l.counter)
    × All (λ (list : Vec Watcher Global). list.items ≡ []) l.lists.items
