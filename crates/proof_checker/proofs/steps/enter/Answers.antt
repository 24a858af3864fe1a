use Rattle.std.proofs.Common.{refl, ap}
use Rattle.std.proofs.lemmas.Int.{to_z-of_z}
use Rattle.proof_term.specs.Valid.{Stage}
use Rattle.open_levels.specs.Kept.{stage_of}
use Rattle.proof_checker.specs.Place.{AtStep}
use Rattle.proof_checker.specs.Outcome.{Next}
use Rattle.proof_checker.proofs.steps.enter.Goals as goal

pub returns : goal.returns
returns c =
    let bound_fits = c.ranges.bound in
    let stage = simp to_z-of_z at c.in_ok-inner.ensures.stage in
    (AtStep (stage_of c.in_ok-inner.inner), (refl, c.in_ok-inner.ensures.kept), ap (λ (s : Stage). Next (AtStep s)) stage)
