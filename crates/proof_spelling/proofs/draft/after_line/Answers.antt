use Rattle.std.proofs.Common.{IfOk, refl, sym, subst}
use Rattle.proof_spelling.specs.declared.draft.Draft.{Draft}
use Rattle.proof_spelling.specs.Draft.{Comes}
use Rattle.proof_spelling.proofs.draft.after_line.Goals as goal

pub returns-in-Header : goal.returns-in-Header
returns-in-Header c = subst (λ (d : Draft). Comes d c.args.line c.after_header.result) (sym c.in-Header.is) c.after_header.ensures

pub returns-in-Shape : goal.returns-in-Shape
returns-in-Shape c = subst (λ (d : Draft). Comes d c.args.line c.after_shape.result) (sym c.in-Shape.is) c.after_shape.ensures

pub returns-in-Goal : goal.returns-in-Goal
returns-in-Goal c = subst (λ (d : Draft). Comes d c.args.line c.after_goal.result) (sym c.in-Goal.is) c.after_goal.ensures

pub returns-in-Step : goal.returns-in-Step
returns-in-Step c = subst (λ (d : Draft). IfOk c.after_steps.result (Comes d c.args.line)) (sym c.in-Step.is) c.after_steps.ensures

pub returns-in-Node : goal.returns-in-Node
returns-in-Node c = subst (λ (d : Draft). IfOk c.after_nodes.result (Comes d c.args.line)) (sym c.in-Node.is) c.after_nodes.ensures

pub returns-in-End : goal.returns-in-End
returns-in-End c = rw c.in-End.is refl
