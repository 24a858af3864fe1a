use Rattle.std.proofs.Common.{◌≡◌, [], take, Vec, Global}
use Rattle.std.specs.Prelude.{All}
use Rattle.clause_search.specs.declared.watch_lists.Watcher.{Watcher}
use Rattle.clause_search.proofs.watch_lists.WatchLists.clear.Given as goal

abbrev pub invariant-loop-list : goal.invariant-loop-list
invariant-loop-list l = All (λ (list : Vec Watcher Global). list.items ≡ []) (take l.list-index l.list-items)
