use Rattle.std.proofs.Common.{◌≡◌, length, sym, ap, ◌∙◌, rules, arith}
use Rattle.clause_search.specs.Search.{Search}
use Rattle.clause_search.proofs.PropagationLaws.{on_err, propagated_none, grown_trans, propagated_trans}
use Rattle.clause_search.proofs.WatchLaws.{watched_quiet}
use Rattle.clause_search.proofs.watches.Watches.propagate.Goals as goal

pub loop-self-init : goal.loop-self-init
loop-self-init c = record {
  right = c.in_ok-spread.ensures.right;
  propagated = propagated_none c.look_at_new.new.known c.look_at_new.new.tally;
  all = search rules;
}

pub returns-in_err-spread-2-clause-err : goal.returns-in_err-spread-2-clause-err
returns-in_err-spread-2-clause-err c =
    let looked = propagated_trans c.args.known.now c.look_at_new.new.known c.loop-self.known c.args.tally.now c.look_at_new.new.tally c.loop-self.tally c.in_ok-spread.ensures.propagated c.loop-self.invariant.propagated in
    on_err c.from_residual-in_err-spread-2.result _
    (grown_trans c.args.known.now c.loop-self.known c.work.new.known looked.grown c.in_err-spread-2.ensures.err)

pub returns-in-Some-2-clause-propagated : goal.returns-in-Some-2-clause-propagated
returns-in-Some-2-clause-propagated c =
    let looked = propagated_trans c.args.known.now c.look_at_new.new.known c.loop-self.known c.args.tally.now c.look_at_new.new.tally c.loop-self.tally c.in_ok-spread.ensures.propagated c.loop-self.invariant.propagated in
    propagated_trans c.args.known.now c.loop-self.known c.work.new.known c.args.tally.now c.loop-self.tally c.work.new.tally looked c.in_ok-spread-2.ensures.propagated

pub loop-self-preserved : goal.loop-self-preserved
loop-self-preserved c =
    let p = c.in_ok-spread-2.ensures.propagated in
    let store : length c.work.new.known.store ≡ length c.loop-self.known.store = ap (λ (s : Search). length s.store) p.grown.lits in
    record {
      right = c.in_ok-spread-2.ensures.right;
      propagated = propagated_trans c.look_at_new.new.known c.loop-self.known c.work.new.known c.look_at_new.new.tally c.loop-self.tally c.work.new.tally c.loop-self.invariant.propagated p;
      all = c.in_ok-spread-2.ensures.count ∙ c.loop-self.invariant.all ∙ sym store;
    }

pub returns-clause-propagated : goal.returns-clause-propagated
returns-clause-propagated c =
    propagated_trans c.args.known.now c.look_at_new.new.known c.loop-self.known c.args.tally.now c.look_at_new.new.tally c.loop-self.tally c.in_ok-spread.ensures.propagated c.loop-self.invariant.propagated

pub returns-clause-says : goal.returns-clause-says
returns-clause-says c =
    let state = c.loop-self.known in
    let it = c.loop-self.self in
    let count : length c.trail.result.now ≡ length state.trail.lits = ap length c.trail.ensures.lits in
    watched_quiet state it.lists it.pairs.items it.head it.base c.loop-self.invariant.all (omega (arith, count, c.loop-self-test.false)) c.loop-self.invariant.right
