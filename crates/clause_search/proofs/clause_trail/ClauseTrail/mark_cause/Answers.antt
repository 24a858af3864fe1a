use Rattle.std.proofs.Common.{◌≡◌, ◌<◌, ◌∙◌, length, sym, subst, inl, inr, arith}
use Rattle.std.proofs.lemmas.List.{get_or_read}
use Rattle.mix_system.specs.Bounds.{IsFalseIn, range_bounds}
use Rattle.bound_trail.specs.Trail.{Trail, IsCause}
use Rattle.clause_search.specs.Marks.{mark_at}
use Rattle.clause_search.specs.declared.marks.Mark.TheVariants.{Clear}
use Rattle.clause_search.proofs.MarkLaws.{cause_none, cause_again, cause_beside, cause_lowest}
use Rattle.clause_search.proofs.clause_trail.ClauseTrail.mark_cause.Goals as goal

pub returns-in_default-clause-marks : goal.returns-in_default-clause-marks
returns-in_default-clause-marks c =
    let lit = c.args.lit.now in
    cause_none c.args.self.now.trail lit c.args.start c.args.lowest c.args.marks.now.items
    (subst (λ (t : Trail). IsFalseIn (range_bounds t.ranges) lit) c.bounds.ensures.trail c.in_default.ensures) c.requires.lowest

pub returns-in_default-index-clause-marks : goal.returns-in_default-index-clause-marks
returns-in_default-index-clause-marks c =
    let place = c.in-Some.place in
    let lit = c.args.lit.now in
    let marks = c.args.marks.now.items in
    let cause : IsCause c.args.self.now.trail lit place = subst (λ (t : Trail). IsCause t lit place) c.bounds.ensures.trail c.in-Some.ensures in
    let h : place < length marks = omega (arith, cause.within, c.requires.one_each) in
    cause_again c.args.self.now.trail lit c.args.start c.args.lowest place marks cause
    (λ clear. c.in_default-index.not-Clear (get_or_read marks place c.index.result.now h c.index.ensures Clear ∙ clear)) c.requires.lowest

pub returns-then-place-start-clause-marks : goal.returns-then-place-start-clause-marks
returns-then-place-start-clause-marks c =
    let place = c.in-Some.place in
    let lit = c.args.lit.now in
    let marks = c.args.marks.now.items in
    let cause : IsCause c.args.self.now.trail lit place = subst (λ (t : Trail). IsCause t lit place) c.bounds.ensures.trail c.in-Some.ensures in
    let h : place < length marks = omega (arith, cause.within, c.requires.one_each) in
    let clear : mark_at marks place ≡ Clear = sym (get_or_read marks place c.index.result.now h c.index.ensures Clear) ∙ c.in-Clear.is in
    cause_beside c.args.self.now.trail lit c.args.start c.args.lowest place marks cause h clear (inl c.if-place-start.true) c.requires.lowest

pub returns-then-lowest-place-clause-marks : goal.returns-then-lowest-place-clause-marks
returns-then-lowest-place-clause-marks c =
    let place = c.in-Some.place in
    let lit = c.args.lit.now in
    let marks = c.args.marks.now.items in
    let cause : IsCause c.args.self.now.trail lit place = subst (λ (t : Trail). IsCause t lit place) c.bounds.ensures.trail c.in-Some.ensures in
    let h : place < length marks = omega (arith, cause.within, c.requires.one_each) in
    let clear : mark_at marks place ≡ Clear = sym (get_or_read marks place c.index.result.now h c.index.ensures Clear) ∙ c.in-Clear.is in
    cause_beside c.args.self.now.trail lit c.args.start c.args.lowest place marks cause h clear (inr c.if-lowest-place.true) c.requires.lowest

pub returns-clause-marks : goal.returns-clause-marks
returns-clause-marks c =
    let place = c.in-Some.place in
    let lit = c.args.lit.now in
    let marks = c.args.marks.now.items in
    let cause : IsCause c.args.self.now.trail lit place = subst (λ (t : Trail). IsCause t lit place) c.bounds.ensures.trail c.in-Some.ensures in
    let h : place < length marks = omega (arith, cause.within, c.requires.one_each) in
    let clear : mark_at marks place ≡ Clear = sym (get_or_read marks place c.index.result.now h c.index.ensures Clear) ∙ c.in-Clear.is in
    cause_lowest c.args.self.now.trail lit c.args.start c.args.lowest place marks cause h clear c.if-place-start.false c.if-lowest-place.false c.requires.lowest
