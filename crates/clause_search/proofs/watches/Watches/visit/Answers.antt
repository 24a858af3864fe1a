use Rattle.std.proofs.Common.{◌+◌, refl, sym, ◌∙◌, subst}
use Rattle.std.proofs.lemmas.Bool.{false≢true}
use Rattle.mix_system.specs.Bounds.{IsFalseIn}
use Rattle.bound_trail.specs.Trail.{box}
use Rattle.clause_search.specs.Watched.{list_at}
use Rattle.clause_search.specs.Visited.{IsDone, watched_lit}
use Rattle.clause_search.proofs.PropagationLaws.{propagated_none}
use Rattle.clause_search.proofs.WatchLaws.{watched_but}
use Rattle.clause_search.proofs.VisitLaws.{are_done_next, are_done_same, done_left, hold_at}
use Rattle.clause_search.proofs.watches.Watches.visit.Goals as goal

pub returns-then-not-is_false-clause-goes : goal.returns-then-not-is_false-clause-goes
returns-then-not-is_false-clause-goes c = record {
  propagated = propagated_none c.args.known.now c.args.tally.now;
  right = c.requires.right;
  same_head = refl;
  same_count = refl;
}

pub returns-then-not-is_false-clause-visits : goal.returns-then-not-is_false-clause-visits
returns-then-not-is_false-clause-visits c =
    let state = c.args.known.now in
    let it = c.args.self.now in
    let lost = c.get-watcher.result in
    let lists = it.lists in
    let list = c.args.list in
    let at = c.args.at in
    let key = c.args.key.now in
    let left : IsFalseIn (box state.trail) (watched_lit key lost.bound) → ⊥ =
    λ f. false≢true (sym c.if-not-is_false.true ∙ c.is_false.ensures.1 (subst (IsFalseIn (box state.trail)) (sym c.literal-lit.ensures) f)) in (
      refl,
      are_done_next state (it.head + 1) key (list_at lists list) at c.requires.visiting.done
          (hold_at (IsDone state (it.head + 1) key) (list_at lists list) at lost c.requires.within c.get-watcher.ensures (done_left state (it.head + 1) key lost left)),
    )

pub returns-in_default-clause-right : goal.returns-in_default-clause-right
returns-in_default-clause-right c =
    let state = c.args.known.now in
    let it = c.args.self.now in
    let lost = c.get-watcher.result in
    let lists = it.lists in
    let list = c.args.list in
    let at = c.args.at in
    let key = c.args.key.now in
    watched_but state lists c.take.new.self it.pairs.items it.head it.base lost (c.take.ensures.takes.keeps lost c.get-watcher.ensures) c.in_default.ensures c.requires.right

pub returns-in_default-clause-goes : goal.returns-in_default-clause-goes
returns-in_default-clause-goes c =
    let state = c.args.known.now in
    let it = c.args.self.now in
    let lost = c.get-watcher.result in
    let lists = it.lists in
    let list = c.args.list in
    let at = c.args.at in
    let key = c.args.key.now in
    record {
      propagated = propagated_none state c.args.tally.now;
      right = watched_but state lists c.take.new.self it.pairs.items it.head it.base lost (c.take.ensures.takes.keeps lost c.get-watcher.ensures) c.in_default.ensures c.requires.right;
      same_head = refl;
      same_count = refl;
    }

pub returns-in_default-clause-visits : goal.returns-in_default-clause-visits
returns-in_default-clause-visits c =
    let state = c.args.known.now in
    let it = c.args.self.now in
    let lost = c.get-watcher.result in
    let lists = it.lists in
    let list = c.args.list in
    let at = c.args.at in
    let key = c.args.key.now in
    let takes = c.take.ensures.takes in
    (takes.fewer, are_done_same state (it.head + 1) key (list_at lists list) (list_at c.take.new.self list) at takes.before c.requires.visiting.done)
