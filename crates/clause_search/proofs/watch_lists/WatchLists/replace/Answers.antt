use Rattle.std.proofs.Common.{◌≡◌, set, Vec, Global, List, ap, sym, subst, ◌∙◌}
use Rattle.std.specs.Vec.{with_item}
use Rattle.clause_search.specs.declared.watch_lists.Watcher.{Watcher}
use Rattle.clause_search.specs.Watched.{list_at}
use Rattle.clause_search.specs.Visited.{Replaces}
use Rattle.clause_search.proofs.ListedLaws.{here_is, changed_view, replaces}
use Rattle.clause_search.proofs.watch_lists.WatchLists.replace.Goals as goal

abbrev items : Vec Watcher Global → List Watcher
items v = v.items

pub returns : goal.returns
returns c =
    let lists = c.args.self.now in
    let list = c.args.list in
    let at = c.args.at in
    let watcher = c.args.watcher in
    let inside = c.self.inside.lists.items in
    let old = c.index_mut.result.now in
    let here : items old ≡ list_at lists list = here_is items inside lists list old c.self.view_is c.requires.list c.index_mut.ensures.value in
    let after = changed_view items inside lists list (with_item old at watcher) c.self.view_is ∙ ap (λ xs. set lists list (set xs at watcher)) here in
    subst (Replaces list at watcher lists) (sym after) (replaces lists list at watcher c.requires.list c.requires.within)
