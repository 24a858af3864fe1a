use Rattle.std.proofs.Common.{◌<◌, ◌∷◌, List, refl, inl, inr, length, rules}
use Rattle.std.proofs.lemmas.Bool.{false≢true}
use Rattle.std.proofs.lemmas.Int.{to_z-of_z}
use Rattle.mix_system.specs.declared.literal.Lit.{Lit}
use Rattle.proof_term.specs.Refutes.{low_half, high_half}
use Rattle.open_levels.specs.Kept.{stage_of}
use Rattle.proof_checker.specs.Place.{InTree}
use Rattle.proof_checker.specs.Outcome.{SplitGives, GoesTo}
use Rattle.proof_checker.specs.Kept.{IsTheory, Comes}
use Rattle.proof_checker.proofs.ComesLaws.{one_more, only_step, comes_as, if_ok_as}
use Rattle.proof_checker.proofs.nodes.split.Goals as goal

pub returns-in-Err : goal.returns-in-Err
returns-in-Err c = λ box boxes t.
    let at_fits = c.ranges.at in
    let is = simp to_z-of_z at c.in-Err.ensures.excess in
    let within = simp to_z-of_z at c.in-Err.ensures.within in
    let exists : c.args.var < length c.args.base.now.system.now.ranges = search rules in
    inr (exists, inl (c.in-Err.excess, one_more c.args.at c.in-Err.excess is (λ fits. false≢true (within.1 fits)), refl))

pub halve-requires : goal.halve-requires
halve-requires c =
    let at_fits = c.ranges.at in
    let within = simp to_z-of_z at c.in-Ok.ensures.within in
    let exists : c.args.var < length c.args.base.now.system.now.ranges = search rules in
    record { theory = c.requires; exists = exists; fits = simp to_z-of_z (within.0 refl) }

pub returns-in-Ok : goal.returns-in-Ok
returns-in-Ok c =
    let base = c.args.base.now in
    let theory = c.args.theory in
    let var = c.args.var in
    let at = c.args.at in
    let at_fits = c.ranges.at in
    let within = simp to_z-of_z at c.in-Ok.ensures.within in
    let halves = simp to_z-of_z at c.halve.ensures in
    let exists : var < length base.system.now.ranges = search rules in
    let Goes : List Lit → List (List Lit) → _ = λ box boxes. GoesTo (InTree (stage_of theory.levels) theory.clause ((low_half var at ∷ box) ∷ (high_half var at ∷ box) ∷ boxes)) in
    let Gives : List Lit → List (List Lit) → _ = λ box boxes. SplitGives base.system.now (stage_of theory.levels) theory.clause box boxes var at in
    if_ok_as (λ f. (box : List Lit) (boxes : List (List Lit)) → IsTheory base theory (box ∷ boxes) → Comes base (Goes box boxes) f)
    (λ f. (box : List Lit) (boxes : List (List Lit)) → IsTheory base theory (box ∷ boxes) → Comes base (Gives box boxes) f)
    (λ f comes box boxes t. comes_as base (Goes box boxes) (Gives box boxes) (λ o goes. inr (exists, inr (only_step _ (within.0 refl), goes))) f (comes box boxes t)) c.halve.result halves
