use Rattle.std.proofs.Common.{refl, inl, inr, sym, ◌∙◌}
use Rattle.std.proofs.lemmas.Bool.{false≢true}
use Rattle.std.proofs.lemmas.Int.{to_z-of_z}
use Rattle.std.proofs.lemmas.List.{length-map}
use Rattle.proof_term.specs.Valid.{after_enter}
use Rattle.open_levels.specs.Kept.{stage_of}
use Rattle.proof_checker.specs.Place.{AtStep}
use Rattle.proof_checker.specs.Outcome.{CutGives, GoesTo}
use Rattle.proof_checker.specs.Kept.{Comes}
use Rattle.proof_checker.proofs.ComesLaws.{one_more, only_step, comes_as, if_ok_as}
use Rattle.proof_checker.proofs.steps.cut.Goals as goal

pub returns-then-not-has_term : goal.returns-then-not-has_term
returns-then-not-has_term c = inl (λ exists. false≢true (sym c.if-not-has_term.true ∙ c.has_term.ensures.1 exists), refl)

pub returns-then-not-may_nest : goal.returns-then-not-may_nest
returns-then-not-may_nest c =
    let exists = c.has_term.ensures.0 c.if-not-has_term.false in
    inr (exists, inl (λ few. false≢true (sym c.if-not-may_nest.true ∙ c.may_nest.ensures.1 (rw length-map at few)), refl))

pub returns-in-Err : goal.returns-in-Err
returns-in-Err c =
    let bound_fits = c.ranges.bound in
    let is = simp to_z-of_z at c.in-Err.ensures.excess in
    let within = simp to_z-of_z at c.in-Err.ensures.within in
    let exists = c.has_term.ensures.0 c.if-not-has_term.false in
    let few = c.may_nest.ensures.0 c.if-not-may_nest.false in
    inr (exists, inr (rw length-map few, inl (c.in-Err.excess, one_more c.args.bound c.in-Err.excess is (λ fits. false≢true (within.1 fits)), refl)))

pub enter-requires : goal.enter-requires
enter-requires c =
    let bound_fits = c.ranges.bound in
    let within = simp to_z-of_z at c.in-Ok.ensures.within in
    record { sound = c.requires.sound; kept = c.requires.kept; exists = c.has_term.ensures.0 c.if-not-has_term.false; fits = simp to_z-of_z (within.0 refl) }

pub returns-in-Ok : goal.returns-in-Ok
returns-in-Ok c =
    let base = c.args.base.now in
    let at = stage_of c.args.levels in
    let bound_fits = c.ranges.bound in
    let within = simp to_z-of_z at c.in-Ok.ensures.within in
    let enters = simp to_z-of_z at c.enter.ensures in
    let exists = c.has_term.ensures.0 c.if-not-has_term.false in
    let few = c.may_nest.ensures.0 c.if-not-may_nest.false in
    if_ok_as (Comes base (GoesTo (AtStep (after_enter at c.args.term c.args.bound)))) (Comes base (CutGives base.system.now at c.args.term c.args.bound))
    (comes_as base (GoesTo (AtStep (after_enter at c.args.term c.args.bound))) (CutGives base.system.now at c.args.term c.args.bound)
    (λ o goes. inr (exists, inr (rw length-map few, inr (only_step _ (within.0 refl), goes))))) c.enter.result enters
