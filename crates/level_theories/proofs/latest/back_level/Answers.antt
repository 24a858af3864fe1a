use Rattle.std.proofs.Common.{◌≡◌, length, get_or, subst, arith}
use Rattle.std.proofs.lemmas.List.{get_or_default}
use Rattle.mix_system.specs.declared.literal.Lit.{Lit}
use Rattle.bound_trail.specs.Edges.{blank_lit}
use Rattle.bound_trail.specs.Trail.{BecameFalse}
use Rattle.level_theories.specs.Latest.{AreLatest}
use Rattle.level_theories.proofs.ExcludedLaws.{term_on_trail, excluded_known}
use Rattle.level_theories.proofs.LatestLaws.{latest_is_back}
use Rattle.level_theories.proofs.latest.back_level.Goals as goal

pub false_since-requires-clause-term : goal.false_since-requires-clause-term
false_since-requires-clause-term c =
    let it = c.args.level.now in
    let lit = get_or c.args.lits.now c.loop-at.at blank_lit in
    term_on_trail it c.requires.kept lit.term (excluded_known it c.requires.kept lit (c.requires.lits.each c.loop-at.at blank_lit c.loop-at-test.true))

pub false_since-requires-clause-is_false : goal.false_since-requires-clause-is_false
false_since-requires-clause-is_false c = (c.requires.lits.each c.loop-at.at blank_lit c.loop-at-test.true).is_false

pub loop-at-preserved : goal.loop-at-preserved
loop-at-preserved c =
    let trail = c.args.level.now.search.trail in
    let lits = c.args.lits.now in
    let at = c.loop-at.at in
    c.with-latest.ensures trail lits at c.levels-levels.ensures.trail c.loop-at.invariant c.loop-at-test.true
    (λ d. subst (λ (lit : Lit). BecameFalse trail lit c.false_since.result) (get_or_default lits at blank_lit d c.loop-at-test.true) c.false_since.ensures)

pub returns : goal.returns
returns c =
    let state = c.args.level.now.search in
    let lits = c.args.lits.now in
    let latest = c.loop-at.latest in
    let whole : c.loop-at.at ≡ length lits = omega (arith, c.loop-at-test.false, c.loop-at.auto.at-end) in
    latest_is_back state lits latest (subst (λ n. AreLatest state.trail lits n latest) whole c.loop-at.invariant)
