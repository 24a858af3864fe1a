use Rattle.std.proofs.Common.{◌≡◌, ◌+◌, ◌*◌, ◌<◌, [], ◌∷◌, ◌++◌, length, set, OnOk, subst, arith}
use Rattle.bound_trail.specs.Edges.{place_of}
use Rattle.bound_trail.specs.Trail.{Trail}
use Rattle.clause_search.specs.Watched.{list_at, lit_of, watcher_of}
use Rattle.clause_search.specs.declared.watch_lists.Watcher.{Watcher}
use Rattle.clause_search.proofs.WatchLaws.{listed_put}
use Rattle.clause_search.proofs.watches.list.Goals as goal

pub returns-clause-listed : goal.returns-clause-listed
returns-clause-listed c =
    let vars = length c.args.known.now.trail.ranges in
    let clause = c.args.clause.now in
    let lists = c.args.lists.now in
    let at = c.args.at in
    let target = c.place-target.result in
    let put : OnOk c.put.result (c.put.new.self ≡ set lists target (list_at lists target ++ watcher_of c.args.number clause at ∷ [])) =
    subst (λ (x : Watcher). OnOk c.put.result (c.put.new.self ≡ set lists target (list_at lists target ++ x ∷ []))) c.of-watcher.ensures c.put.ensures.ok in
    let place : target ≡ place_of vars (lit_of clause at).term (lit_of clause at).side = subst (λ (t : Trail). target ≡ place_of (length t.ranges) (lit_of clause at).term (lit_of clause at).side) c.bounds.ensures.trail c.place-target.ensures.place in
    let room : target < 2 * (length c.args.known.now.trail.ranges + c.args.known.now.trail.rows) = subst (λ (t : Trail). target < 2 * (length t.ranges + t.rows)) c.bounds.ensures.trail c.place-target.ensures.within in
    listed_put c.put.result vars lists c.put.new.self c.args.number clause at target c.requires.within place (omega (arith, c.requires.places, room)) put
