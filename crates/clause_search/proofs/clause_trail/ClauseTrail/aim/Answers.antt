use Rattle.std.proofs.Common.{◌≡◌, ◌∙◌, length, get_or, sym, ap, subst, arith}
use Rattle.std.proofs.lemmas.Bool.{false≢true}
use Rattle.mix_system.specs.Bounds.{IsFalseIn, range_bounds}
use Rattle.bound_trail.specs.Edges.{blank_lit}
use Rattle.bound_trail.specs.Trail.{Trail, IsCause}
use Rattle.clause_search.specs.Runs.{IsAimSoFar}
use Rattle.clause_search.proofs.AimLaws.{aim_first, aim_end, aim_lower, aim_later, aim_not_false, aim_at_once, one_is}
use Rattle.clause_search.proofs.clause_trail.ClauseTrail.aim.Goals as goal

pub loop-at-init : goal.loop-at-init
loop-at-init c =
    subst (λ n. IsAimSoFar c.args.self.now 0 n c.args.conflict) (sym (ap length c.trail.ensures.lits)) (aim_first c.args.self.now c.args.conflict c.requires.conflict)

pub loop-at-preserved-then-not-is_false : goal.loop-at-preserved-then-not-is_false
loop-at-preserved-then-not-is_false c =
    let clause = c.clause.result.now in
    let one : length clause ≡ 1 = omega arith in
    aim_not_false c.args.self.now c.loop-at.at c.loop-at.end c.loop-at.last clause (get_or clause 0 blank_lit) c.clause.ensures.lits (one_is clause one)
    (λ a. false≢true (sym c.if-not-is_false.true ∙ c.is_false.ensures.1 a)) c.loop-at.invariant

pub returns-in_default-cause : goal.returns-in_default-cause
returns-in_default-cause c =
    let clause = c.clause.result.now in
    let lit = get_or clause 0 blank_lit in
    let one : length clause ≡ 1 = omega arith in
    aim_at_once c.args.self.now c.loop-at.at clause lit c.clause.ensures.lits (one_is clause one)
    (subst (λ (t : Trail). IsFalseIn (range_bounds t.ranges) lit) c.bounds.ensures.trail c.in_default-cause.ensures)

pub loop-at-preserved-then-place-end : goal.loop-at-preserved-then-place-end
loop-at-preserved-then-place-end c =
    let clause = c.clause.result.now in
    let lit = get_or clause 0 blank_lit in
    let one : length clause ≡ 1 = omega arith in
    let place = c.in-Some.place in
    let cause : IsCause c.args.self.now.trail lit place = subst (λ (t : Trail). IsCause t lit place) c.bounds.ensures.trail c.in-Some.ensures in
    aim_later c.args.self.now c.loop-at.at c.loop-at.end c.loop-at.last place clause lit c.clause.ensures.lits (one_is clause one) cause c.if-place-end.true c.loop-at.invariant

pub loop-at-preserved : goal.loop-at-preserved
loop-at-preserved c =
    let clause = c.clause.result.now in
    let lit = get_or clause 0 blank_lit in
    let one : length clause ≡ 1 = omega arith in
    let place = c.in-Some.place in
    let cause : IsCause c.args.self.now.trail lit place = subst (λ (t : Trail). IsCause t lit place) c.bounds.ensures.trail c.in-Some.ensures in
    let why = c.in-Some-reason.ensures in
    aim_lower c.args.self.now c.loop-at.at c.loop-at.end c.loop-at.last place c.in-Some-reason.reason clause why.0 lit c.clause.ensures.lits (one_is clause one) cause c.if-place-end.false why.1 why.2 c.loop-at.invariant

pub returns : goal.returns
returns c =
    let state = c.args.self.now in
    let all : c.loop-at.at ≡ length state.store = omega (arith, c.clauses-at-end.ensures.count) in
    aim_end state c.loop-at.end c.loop-at.last (subst (λ n. IsAimSoFar state n c.loop-at.end c.loop-at.last) all c.loop-at.invariant)
