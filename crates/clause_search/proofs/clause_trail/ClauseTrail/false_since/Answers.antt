use Rattle.std.proofs.Common.{subst}
use Rattle.mix_system.specs.Bounds.{IsFalseIn, range_bounds}
use Rattle.bound_trail.specs.Trail.{Trail, IsCause}
use Rattle.clause_search.proofs.LearntLaws.{cause_became_false, range_became_false}
use Rattle.clause_search.proofs.clause_trail.ClauseTrail.false_since.Goals as goal

pub returns-in-None : goal.returns-in-None
returns-in-None c =
    range_became_false c.args.self.now.trail c.args.lit.now (subst (λ (t : Trail). IsFalseIn (range_bounds t.ranges) c.args.lit.now) c.bounds.ensures.trail c.in-None.ensures)

pub returns-in-Some : goal.returns-in-Some
returns-in-Some c =
    cause_became_false c.args.self.now.trail c.args.lit.now c.in-Some.place c.level_of.result c.bounds.ensures.sound
    (subst (λ (t : Trail). IsCause t c.args.lit.now c.in-Some.place) c.bounds.ensures.trail c.in-Some.ensures) c.level_of.ensures
