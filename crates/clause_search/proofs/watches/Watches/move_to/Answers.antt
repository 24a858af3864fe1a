use Rattle.std.proofs.Common.{◌∙◌, ap, set, sym, subst, [], ◌∷◌, ◌++◌, ◌≡◌, ◌≢◌, [], ◌∷◌, ◌++◌}
use Rattle.clause_search.specs.Watched.{list_at}
use Rattle.clause_search.specs.Visited.{Adds}
use Rattle.std.specs.Prelude.{Contains}
use Rattle.clause_search.proofs.ListedLaws.{adds_put, put_there, takes_after, changed_other}
use Rattle.clause_search.proofs.watches.Watches.move_to.Goals as goal

pub returns-clause-moves : goal.returns-clause-moves
returns-clause-moves c =
    let lists = c.args.self.now.lists in
    let target = c.args.target in
    let new = list_at lists target ++ c.args.watcher ∷ [] in
    let put : c.put.new.self ≡ set lists target new = c.in_ok-put.ensures.ok in
    let apart : c.args.list ≢ target = λ e. c.if-target-list.false (sym e) in
    let same : list_at c.put.new.self c.args.list ≡ list_at lists c.args.list = ap (λ xs. list_at xs c.args.list) put ∙ changed_other lists target c.args.list new apart in
    let there : Contains (list_at c.put.new.self target) c.args.watcher = subst (λ xs. Contains (list_at xs target) c.args.watcher) (sym put) (put_there lists target c.args.watcher c.requires.target) in (
      takes_after c.args.list c.args.at lists c.put.new.self c.take.new.self (subst (Adds lists) (sym put) (adds_put lists target c.args.watcher c.requires.target)) same c.take.ensures.takes,
      subst (λ xs. Contains xs c.args.watcher) (sym (c.take.ensures.others target c.if-target-list.false)) there,
    )
