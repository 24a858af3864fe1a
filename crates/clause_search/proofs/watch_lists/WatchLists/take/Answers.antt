use Rattle.std.proofs.Common.{◌≡◌, Vec, Global, List, ap, sym, subst, ◌∙◌}
use Rattle.clause_search.specs.declared.watch_lists.Watcher.{Watcher}
use Rattle.clause_search.specs.Watched.{list_at}
use Rattle.clause_search.specs.Visited.{Takes}
use Rattle.clause_search.proofs.ListedLaws.{IsTaken, here_is, changed_view, changed_other, taken_by, takes}
use Rattle.clause_search.proofs.watch_lists.WatchLists.take.Goals as goal

abbrev items : Vec Watcher Global → List Watcher
items v = v.items

pub returns-clause-takes : goal.returns-clause-takes
returns-clause-takes c =
    let lists = c.args.self.now in
    let list = c.args.list in
    let at = c.args.at in
    let inside = c.self.inside.lists.items in
    let old = c.index_mut.result.now in
    let new = c.swap_remove.new.self in
    let here : items old ≡ list_at lists list = here_is items inside lists list old c.self.view_is c.requires.list c.index_mut.ensures.value in
    let taken : IsTaken at old.items new.items = taken_by at old.items new.items old.len new.len old.ok.0 new.ok.0 c.swap_remove.ensures.len c.swap_remove.ensures.by_index in
    subst (Takes list at lists) (sym (changed_view items inside lists list new c.self.view_is)) (takes lists list at new.items c.requires.list c.requires.within (subst (λ xs. IsTaken at xs new.items) here taken))

pub returns-clause-others : goal.returns-clause-others
returns-clause-others c other apart =
    let lists = c.args.self.now in
    let list = c.args.list in
    let new = c.swap_remove.new.self in
    ap (λ xs. list_at xs other) (changed_view items c.self.inside.lists.items lists list new c.self.view_is) ∙ changed_other lists list other new.items apart
