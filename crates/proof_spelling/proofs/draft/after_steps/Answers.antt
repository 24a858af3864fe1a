use Rattle.std.proofs.Common.{ℤ, FitsSigned, to_z, of_z, ◌≡◌, Some, IfOk, sym, subst, rules}
use Rattle.std.specs.Int.{w128}
use Rattle.std.proofs.lemmas.Int.{to_z-of_z}
use Rattle.proof_text.specs.declared.line.Line.{Line}
use Rattle.proof_text.specs.declared.line.Line.TheVariants as line
use Rattle.proof_spelling.specs.declared.draft.Draft.TheVariants as draft
use Rattle.proof_spelling.specs.Draft.{Comes}
use Rattle.proof_spelling.proofs.DraftLaws.{no_step}
use Rattle.proof_spelling.proofs.draft.after_steps.Goals as goal

pub returns-in-Lemma : goal.returns-in-Lemma
returns-in-Lemma c = subst (λ (l : Line). IfOk c.lemma.result (Comes (draft.Step c.args.opened) l)) (sym c.in-Lemma.is) c.lemma.ensures

pub returns-in-Theory : goal.returns-in-Theory
returns-in-Theory c = subst (λ (l : Line). Comes (draft.Step c.args.opened) l (Some c.theory.result)) (sym c.in-Theory.is) c.theory.ensures

pub returns-in-Cut : goal.returns-in-Cut
returns-in-Cut c =
    let fits : FitsSigned w128 c.in-Cut.bound = search rules in
    let same : to_z w128 (of_z w128 c.in-Cut.bound) ≡ c.in-Cut.bound = simp to_z-of_z in
    let comes = subst (λ (number : ℤ). IfOk c.cut.result (Comes (draft.Step c.args.opened) (line.Cut c.in-Cut.term number))) same c.cut.ensures in
    subst (λ (l : Line). IfOk c.cut.result (Comes (draft.Step c.args.opened) l)) (sym c.in-Cut.is) comes

pub returns-in_default : goal.returns-in_default
returns-in_default c = no_step c.args.opened.ended c.args.opened.around c.args.line (search rules) c.in_default.not-Lemma c.in_default.not-Theory c.in_default.not-Cut
