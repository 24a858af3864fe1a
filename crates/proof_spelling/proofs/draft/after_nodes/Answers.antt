use Rattle.std.proofs.Common.{ℤ, FitsSigned, to_z, of_z, ◌≡◌, IfOk, sym, subst, rules}
use Rattle.std.specs.Int.{w128}
use Rattle.std.proofs.lemmas.Int.{to_z-of_z}
use Rattle.proof_text.specs.declared.line.Line.{Line}
use Rattle.proof_text.specs.declared.line.Line.TheVariants as line
use Rattle.proof_spelling.specs.declared.draft.Draft.TheVariants as draft
use Rattle.proof_spelling.specs.Draft.{Comes}
use Rattle.proof_term.specs.Valid.{is_empty}
use Rattle.proof_spelling.proofs.DraftLaws.{no_node}
use Rattle.proof_spelling.proofs.draft.after_nodes.Goals as goal

pub returns-in-Leaf : goal.returns-in-Leaf
returns-in-Leaf c = subst (λ (l : Line). IfOk c.leaf.result (Comes (draft.Node c.args.opened c.args.growing) l)) (sym c.in-Leaf.is) c.leaf.ensures

pub returns-in-Split : goal.returns-in-Split
returns-in-Split c =
    let fits : FitsSigned w128 c.in-Split.at = search rules in
    let same : to_z w128 (of_z w128 c.in-Split.at) ≡ c.in-Split.at = simp to_z-of_z in
    let comes = subst (λ (number : ℤ). IfOk c.split.result (Comes (draft.Node c.args.opened c.args.growing) (line.Split c.in-Split.var number))) same c.split.ensures in
    subst (λ (l : Line). IfOk c.split.result (Comes (draft.Node c.args.opened c.args.growing) l)) (sym c.in-Split.is) comes

pub returns-in_default : goal.returns-in_default
returns-in_default c = no_node (is_empty c.args.growing.clause) c.args.opened.around c.args.growing.others c.args.line c.in_default.not-Split c.in_default.not-Leaf
