use Rattle.std.proofs.Common.{refl, inl, inr, true, subst, sym, Bool, ◌≡◌}
use Rattle.proof_text.specs.declared.line.Line.TheVariants.{End}
use Rattle.open_levels.specs.Kept.{stage_of}
use Rattle.proof_checker.specs.Place.{AtStep, is_step_kind, kind_of}
use Rattle.proof_checker.specs.Outcome.{EndGives}
use Rattle.proof_checker.proofs.ComesLaws.{ok_of_kind, no_step_behind}
use Rattle.proof_checker.proofs.steps.after_empty.Goals as goal

pub returns : goal.returns
returns c =
    let base = c.args.base.now in
    let at = stage_of c.args.levels in
    ok_of_kind base (AtStep at) c.args.line End (EndGives at) c.in-End.is (λ o gives. inr (refl, gives)) c.end.result c.end.ensures

pub returns-in_default : goal.returns-in_default
returns-in_default c =
    let apart = no_step_behind c.args.line c.in_default.not-End in
    inl (subst (λ (b : Bool). is_step_kind b (kind_of c.args.line) ≡ true → ⊥) (sym c.requires.ended) apart, refl)
