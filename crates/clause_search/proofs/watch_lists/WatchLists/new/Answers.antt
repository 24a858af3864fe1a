use Rattle.std.proofs.Common.{◌≡◌, [], Vec, Global}
use Rattle.std.proofs.lemmas.List.Elements.{All-map}
use Rattle.clause_search.specs.declared.watch_lists.Watcher.{Watcher}
use Rattle.clause_search.proofs.watch_lists.WatchLists.new.Goals as goal

pub returns-clause-empty : goal.returns-clause-empty
returns-clause-empty c =
    All-map (λ list. list ≡ []) (λ (list : Vec Watcher Global). list.items) c.loop.lists.items c.loop.invariant.1
