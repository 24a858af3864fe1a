use Rattle.std.proofs.Common.{◌≡◌, ◌+◌, get_or, refl, ap, ◌∙◌, subst, rules, arith}
use Rattle.mix_system.specs.Lit.{negation}
use Rattle.bound_trail.specs.Edges.{blank_lit}
use Rattle.clause_search.specs.Visited.{Visits}
use Rattle.clause_search.specs.declared.watches.Visit.TheVariants.{Kept, Gone}
use Rattle.clause_search.proofs.PropagationLaws.{propagated_none, propagated_trans}
use Rattle.clause_search.proofs.VisitLaws.{goes_both, visiting_more, worked_right}
use Rattle.clause_search.proofs.watches.Watches.work.Goals as goal

pub loop-at-init : goal.loop-at-init
loop-at-init c = record {
  goes = record {
    propagated = propagated_none c.args.known.now c.args.tally.now;
    right = c.requires.right;
    same_head = refl;
    same_count = refl;
  };
  visiting = search rules;
}

pub loop-at-preserved-in-Kept : goal.loop-at-preserved-in-Kept
loop-at-preserved-in-Kept c =
    let old = c.loop-at.known in
    let new = c.visit.new.known in
    let was = c.loop-at.self in
    let now = c.visit.new.self in
    let key = c.negation-key.result in
    let list = c.place-list.result in
    let goes = c.in_ok-visit.ensures.goes in
    let visits : Visits Kept list c.loop-at.at key new was now c.visit.new.tally = subst (λ v. Visits v list c.loop-at.at key new was now c.visit.new.tally) c.in-Kept.is c.in_ok-visit.ensures.visits in
    record {
      goes = goes_both c.args.known.now old new c.args.self.now was now c.args.tally.now c.loop-at.tally c.visit.new.tally c.loop-at.invariant.goes goes;
      visiting = visiting_more old new was now c.loop-at.tally c.visit.new.tally key list c.loop-at.at (c.loop-at.at + 1) goes c.loop-at.invariant.visiting visits.1;
    }

pub loop-at-preserved : goal.loop-at-preserved
loop-at-preserved c =
    let old = c.loop-at.known in
    let new = c.visit.new.known in
    let was = c.loop-at.self in
    let now = c.visit.new.self in
    let key = c.negation-key.result in
    let list = c.place-list.result in
    let goes = c.in_ok-visit.ensures.goes in
    let visits : Visits Gone list c.loop-at.at key new was now c.visit.new.tally = subst (λ v. Visits v list c.loop-at.at key new was now c.visit.new.tally) c.in-Gone.is c.in_ok-visit.ensures.visits in
    record {
      goes = goes_both c.args.known.now old new c.args.self.now was now c.args.tally.now c.loop-at.tally c.visit.new.tally c.loop-at.invariant.goes goes;
      visiting = visiting_more old new was now c.loop-at.tally c.visit.new.tally key list c.loop-at.at c.loop-at.at goes c.loop-at.invariant.visiting visits.1;
    }

pub returns-in-Stopped-clause-propagated : goal.returns-in-Stopped-clause-propagated
returns-in-Stopped-clause-propagated c =
    propagated_trans c.args.known.now c.loop-at.known c.visit.new.known c.args.tally.now c.loop-at.tally c.visit.new.tally c.loop-at.invariant.goes.propagated c.in_ok-visit.ensures.goes.propagated

pub returns-clause-right : goal.returns-clause-right
returns-clause-right c =
    let old = c.args.known.now in
    let it = c.loop-at.self in
    let lits : c.trail.result.now ≡ old.trail.lits = c.trail.ensures.lits in
    let key : c.negation-key.result ≡ negation (get_or old.trail.lits c.args.self.now.head blank_lit) = c.negation-key.ensures ∙ ap (λ xs. negation (get_or xs c.args.self.now.head blank_lit)) lits in
    worked_right old c.loop-at.known c.args.self.now it c.args.tally.now c.loop-at.tally c.negation-key.result c.place-list.result c.loop-at.at c.loop-at.invariant.goes c.bounds.ensures.clauses c.requires.behind key c.loop-at.invariant.visiting (omega (arith, c.len.ensures, c.loop-at-test.false))
