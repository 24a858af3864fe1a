use Rattle.std.proofs.Common.{◌≡◌, [], ◌∷◌, ◌++◌, set, Vec, Global, List, ap, ◌∙◌}
use Rattle.std.proofs.lemmas.Result.{err_from_is_err_and}
use Rattle.clause_search.specs.declared.watch_lists.Watcher.{Watcher}
use Rattle.clause_search.specs.Watched.{list_at}
use Rattle.clause_search.proofs.ListedLaws.{here_is, changed_view, same_list}
use Rattle.clause_search.proofs.watch_lists.WatchLists.put.Goals as goal

abbrev items : Vec Watcher Global → List Watcher
items v = v.items

pub returns-in_err-push-clause-err : goal.returns-in_err-push-clause-err
returns-in_err-push-clause-err c =
    let lists = c.args.self.now in
    let list = c.args.list in
    let inside = c.self.inside.lists.items in
    let p = err_from_is_err_and c.from_residual.result c.from_residual.ensures.1 in
    let here : items c.index_mut.result.now ≡ list_at lists list = here_is items inside lists list c.index_mut.result.now c.self.view_is c.requires c.index_mut.ensures.value in
    let same : c.push.new.self.items ≡ c.index_mut.result.now.items = c.in_err-push.ensures.items in
    rw (p.1) (changed_view items inside lists list c.push.new.self c.self.view_is ∙ same_list lists list c.push.new.self.items (same ∙ here))

pub returns-clause-ok : goal.returns-clause-ok
returns-clause-ok c =
    let lists = c.args.self.now in
    let list = c.args.list in
    let inside = c.self.inside.lists.items in
    let here : items c.index_mut.result.now ≡ list_at lists list = here_is items inside lists list c.index_mut.result.now c.self.view_is c.requires c.index_mut.ensures.value in
    let pushed : c.push.new.self.items ≡ c.index_mut.result.now.items ++ c.args.watcher ∷ [] = c.in_ok-push.ensures.items in
    changed_view items inside lists list c.push.new.self c.self.view_is ∙ ap (λ xs. set lists list xs) (pushed ∙ ap (λ xs. xs ++ c.args.watcher ∷ []) here)
