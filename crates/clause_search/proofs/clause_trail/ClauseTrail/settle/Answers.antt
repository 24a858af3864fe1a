use Rattle.std.proofs.Common.{◌≡◌, length, refl, sym, subst}
use Rattle.mix_system.specs.declared.tally.Tally.{Tally}
use Rattle.mix_system.specs.Tally.{units}
use Rattle.mix_system.specs.System.{IsInner, Exists}
use Rattle.mix_system.specs.Follows.{LeavesNone}
use Rattle.bound_trail.specs.Trail.{Trail, box}
use Rattle.clause_search.specs.Settled.{IsUnit}
use Rattle.clause_search.specs.Looks.{IsImplied}
use Rattle.clause_search.specs.Search.{Propagated}
use Rattle.clause_search.proofs.PropagationLaws.{all_left, implied_open, any_at_number, propagated_none, propagated_one, settled_implied}
use Rattle.clause_search.proofs.clause_trail.ClauseTrail.settle.Goals as goal

pub returns-then-not-tick-clause-settles : goal.returns-then-not-tick-clause-settles
returns-then-not-tick-clause-settles c =
    let state = c.args.self.now in
    let clause = c.clause.result.now in
    let implied : IsImplied (box state.trail) clause c.in-Implies.lit = subst (λ (t : Trail). IsImplied (box t) clause c.in-Implies.lit) c.bounds.ensures.trail c.in-Implies.ensures in
    record {
      at_budget = subst (λ (t : Tally). units t ≡ t.budget) (sym c.if-not-tick.ensures.unchanged) (c.if-not-tick.ensures.spent.0 refl);
      wanting = any_at_number (IsUnit (box state.trail)) state.store c.args.at clause c.clause.ensures.lits (record { lit = c.in-Implies.lit; one = implied.one; none_true = implied.none_true });
    }

pub imply-requires-clause-term : goal.imply-requires-clause-term
imply-requires-clause-term c =
    let state = c.args.self.now in
    all_left (λ lit. Exists (length state.trail.ranges) state.trail.rows lit.term) (box c.bounds.result.now) c.clause.result.now c.in-Implies.lit c.in-Implies.ensures.one c.clause.ensures.clause.known

pub imply-requires-clause-inner : goal.imply-requires-clause-inner
imply-requires-clause-inner c =
    all_left (λ lit. IsInner lit.bound) (box c.bounds.result.now) c.clause.result.now c.in-Implies.lit c.in-Implies.ensures.one c.clause.ensures.clause.inner

pub imply-requires-clause-open : goal.imply-requires-clause-open
imply-requires-clause-open c =
    let clause = c.clause.result.now in
    implied_open (box c.args.self.now.trail) clause c.in-Implies.lit (subst (λ (t : Trail). IsImplied (box t) clause c.in-Implies.lit) c.bounds.ensures.trail c.in-Implies.ensures)

pub returns-in-Broken-clause-settles : goal.returns-in-Broken-clause-settles
returns-in-Broken-clause-settles c =
    let clause = c.clause.result.now in
    record {
      clause = clause;
      among = c.clause.ensures.lits;
      none_left = subst (λ (t : Trail). LeavesNone (box t) clause) c.bounds.ensures.trail c.in-Broken.ensures;
    }

pub returns-in_ok-imply-in-Implies-clause-propagated : goal.returns-in_ok-imply-in-Implies-clause-propagated
returns-in_ok-imply-in-Implies-clause-propagated c =
    let state = c.args.self.now in
    let clause = c.clause.result.now in
    let implied : IsImplied (box state.trail) clause c.in-Implies.lit = subst (λ (t : Trail). IsImplied (box t) clause c.in-Implies.lit) c.bounds.ensures.trail c.in-Implies.ensures in
    rw c.in_ok-imply-in-Implies.ensures.ok (propagated_one state c.in-Implies.lit c.args.at clause c.args.tally.now c.tick.new.self c.clause.ensures.lits implied.one c.if-not-tick.ensures.counted)

pub returns-in_ok-imply-in-Implies-clause-settles : goal.returns-in_ok-imply-in-Implies-clause-settles
returns-in_ok-imply-in-Implies-clause-settles c =
    let state = c.args.self.now in
    let clause = c.clause.result.now in
    let implied : IsImplied (box state.trail) clause c.in-Implies.lit = subst (λ (t : Trail). IsImplied (box t) clause c.in-Implies.lit) c.bounds.ensures.trail c.in-Implies.ensures in
    rw c.in_ok-imply-in-Implies.ensures.ok (settled_implied state c.in-Implies.lit c.args.at clause c.clause.ensures.lits implied.one)

pub returns-then-not-tick-clause-propagated : goal.returns-then-not-tick-clause-propagated
returns-then-not-tick-clause-propagated c =
    let state = c.args.self.now in
    subst (Propagated state state c.args.tally.now) (sym c.if-not-tick.ensures.unchanged) (propagated_none state c.args.tally.now)

pub returns-in-Settled-clause-propagated : goal.returns-in-Settled-clause-propagated
returns-in-Settled-clause-propagated c = propagated_none c.args.self.now c.args.tally.now

pub returns-in-Broken-clause-propagated : goal.returns-in-Broken-clause-propagated
returns-in-Broken-clause-propagated c = propagated_none c.args.self.now c.args.tally.now
