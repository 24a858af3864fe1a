use Rattle.std.proofs.Common.{◌≡◌, false, refl, inl, inr, sym, ◌∙◌, ap, rules, ℤ, FitsSigned, to_z, of_z, IfOk, subst}
use Rattle.std.specs.Prelude.{not}
use Rattle.std.specs.Int.{w128}
use Rattle.std.proofs.lemmas.Int.{to_z-of_z}
use Rattle.std.proofs.lemmas.Bool.{false≢true}
use Rattle.proof_text.specs.declared.line.Line.TheVariants.{Lemma, Theory, Cut}
use Rattle.proof_term.specs.Valid.{has_ended}
use Rattle.open_levels.specs.Kept.{stage_of}
use Rattle.proof_checker.specs.Place.{AtStep}
use Rattle.proof_checker.specs.Outcome.{StepGives, CutGives}
use Rattle.proof_checker.specs.Kept.{Comes}
use Rattle.proof_checker.proofs.ComesLaws.{ok_of_kind, no_step}
use Rattle.proof_checker.proofs.steps.at_step.Goals as goal

pub returns-in-Lemma : goal.returns-in-Lemma
returns-in-Lemma c =
    let base = c.args.base.now in
    let at = stage_of c.args.levels in
    let line = Lemma c.in-Lemma.clause c.in-Lemma.hints in
    let open' : has_ended at ≡ false = search rules in
    ok_of_kind base (AtStep at) c.args.line line (StepGives base.system.now base.cost at line) c.in-Lemma.is (λ o gives. inr (ap not open', gives)) c.lemma.result c.lemma.ensures

pub returns-in-Theory : goal.returns-in-Theory
returns-in-Theory c =
    let base = c.args.base.now in
    let at = stage_of c.args.levels in
    let line = Theory c.in-Theory.clause in
    let open' : has_ended at ≡ false = search rules in
    ok_of_kind base (AtStep at) c.args.line line (StepGives base.system.now base.cost at line) c.in-Theory.is (λ o gives. inr (ap not open', gives)) c.begin_theory.result c.begin_theory.ensures

pub returns-in-Cut : goal.returns-in-Cut
returns-in-Cut c =
    let base = c.args.base.now in
    let at = stage_of c.args.levels in
    let line = Cut c.in-Cut.term c.in-Cut.bound in
    let open' : has_ended at ≡ false = search rules in
    let fits : FitsSigned w128 c.in-Cut.bound = search rules in
    let same : to_z w128 (of_z w128 c.in-Cut.bound) ≡ c.in-Cut.bound = simp to_z-of_z in
    let comes = subst (λ (bound : ℤ). IfOk c.cut.result (Comes base (CutGives base.system.now at c.in-Cut.term bound))) same c.cut.ensures in
    ok_of_kind base (AtStep at) c.args.line line (CutGives base.system.now at c.in-Cut.term c.in-Cut.bound) c.in-Cut.is (λ o gives. inr (ap not open', gives)) c.cut.result comes

pub returns-in-End : goal.returns-in-End
returns-in-End c =
    let at = stage_of c.args.levels in
    let open' : has_ended at ≡ false = search rules in
    rw c.in-End.is (inr (refl, inl (λ ended. false≢true (sym open' ∙ ended), refl)))

pub returns-in_default : goal.returns-in_default
returns-in_default c =
    inl (no_step (has_ended (stage_of c.args.levels)) c.args.line c.in_default.not-Lemma c.in_default.not-Theory c.in_default.not-Cut c.in_default.not-End, refl)
