use Rattle.std.proofs.Common.{◌≡◌, ◌≤◌, List, [], length, map, Vec, Global, sym, ap, subst, ◌∙◌}
use Rattle.std.specs.Prelude.{All}
use Rattle.std.proofs.lemmas.List.{take_all, with_items_is}
use Rattle.std.proofs.lemmas.List.Elements.{All-map}
use Rattle.clause_search.specs.declared.watch_lists.Watcher.{Watcher}
use Rattle.clause_search.proofs.watch_lists.WatchLists.clear.Goals as goal

abbrev IsEmpty : Vec Watcher Global → Type 0
IsEmpty list = list.items ≡ []

pub returns-clause-empty : goal.returns-clause-empty
returns-clause-empty c =
    let lists = c.self.inside.lists in
    let items : List (Vec Watcher Global) = c.loop-list.list-items in
    let at = c.loop-list.list-index in
    let same : length items ≡ lists.len =
    c.loop-list.auto.list-items ∙ (ap length c.deref_mut-list-items.ensures.value ∙ sym lists.ok.0) in
    let over : length items ≤ at = subst (λ n. n ≤ at) (sym c.loop-list.auto.list-items) c.loop-list-test.false in
    let each : All IsEmpty items = subst (All IsEmpty) (take_all at items over) c.loop-list.invariant in
    subst (λ them. All (λ list. list ≡ []) (map (λ (list : Vec Watcher Global). list.items) them))
    (sym (with_items_is lists items same))
    (All-map (λ list. list ≡ []) (λ (list : Vec Watcher Global). list.items) items each)
