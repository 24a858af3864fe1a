use Rattle.clause_search.proofs.PropagationLaws.{on_err, propagated_none, grown_trans, propagated_trans}
use Rattle.clause_search.proofs.WatchLaws.{watched_propagated}
use Rattle.clause_search.proofs.watches.Watches.look_at_new.Goals as goal

pub loop-self-init : goal.loop-self-init
loop-self-init c = record {
  right = c.requires;
  propagated = propagated_none c.args.known.now c.args.tally.now;
}

pub returns-in_err-watch-clause-err : goal.returns-in_err-watch-clause-err
returns-in_err-watch-clause-err c =
    on_err c.from_residual-in_err-watch.result _
    (grown_trans c.args.known.now c.loop-self.known c.settle.new.self c.loop-self.invariant.propagated.grown c.in_ok-spread.ensures.propagated.grown)

pub returns-in-Some-clause-right : goal.returns-in-Some-clause-right
returns-in-Some-clause-right c =
    let old = c.loop-self.known in
    let it = c.loop-self.self in
    watched_propagated old c.settle.new.self c.loop-self.tally c.settle.new.tally it.lists it.pairs.items it.head it.base c.clauses.ensures.trail c.in_ok-spread.ensures.propagated c.loop-self.invariant.right

pub returns-in-Some-clause-propagated : goal.returns-in-Some-clause-propagated
returns-in-Some-clause-propagated c =
    propagated_trans c.args.known.now c.loop-self.known c.settle.new.self c.args.tally.now c.loop-self.tally c.settle.new.tally c.loop-self.invariant.propagated c.in_ok-spread.ensures.propagated

pub watch-requires-clause-right : goal.watch-requires-clause-right
watch-requires-clause-right c =
    let old = c.loop-self.known in
    let it = c.loop-self.self in
    watched_propagated old c.settle.new.self c.loop-self.tally c.settle.new.tally it.lists it.pairs.items it.head it.base c.clauses.ensures.trail c.in_ok-spread.ensures.propagated c.loop-self.invariant.right

pub loop-self-preserved : goal.loop-self-preserved
loop-self-preserved c = record {
  right = c.in_ok-watch.ensures.right;
  propagated = propagated_trans c.args.known.now c.loop-self.known c.settle.new.self c.args.tally.now c.loop-self.tally c.settle.new.tally c.loop-self.invariant.propagated c.in_ok-spread.ensures.propagated;
}
