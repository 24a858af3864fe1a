use Rattle.std.proofs.Common.{Bool, sym, ◌∙◌, ap}
use Rattle.proof_checker.specs.Place.{Place, may_stand, is_step_kind}
use Rattle.proof_checker.proofs.line.stands.Goals as goal

pub returns-in-Header : goal.returns-in-Header
returns-in-Header c = λ base at is. let here = rw c.in-Header.is at is in c.is_header.ensures ∙ ap (λ (p : Place). may_stand p c.args.kind) (sym here)

pub returns-in-Shape : goal.returns-in-Shape
returns-in-Shape c = λ base at is. let here = rw c.in-Shape.is at is in c.is_shape.ensures ∙ ap (λ (p : Place). may_stand p c.args.kind) (sym here)

pub returns-in-Goal : goal.returns-in-Goal
returns-in-Goal c = λ base at is. let here = rw c.in-Goal.is at is in c.is_goal.ensures ∙ ap (λ (p : Place). may_stand p c.args.kind) (sym here)

pub returns-in-Step : goal.returns-in-Step
returns-in-Step c = λ base at is.
    let here = rw c.in-Step.is at is in
    c.is_step.ensures ∙ ap (λ (b : Bool). is_step_kind b c.args.kind) c.has_ended.ensures ∙ ap (λ (p : Place). may_stand p c.args.kind) (sym here.0)

pub returns-in-Tree : goal.returns-in-Tree
returns-in-Tree c = λ base at is. let here = rw c.in-Tree.is at is in c.is_node.ensures ∙ ap (λ (p : Place). may_stand p c.args.kind) (sym here.1)

pub returns-in-End : goal.returns-in-End
returns-in-End c = λ base at is. let here = rw c.in-End.is at is in ap (λ (p : Place). may_stand p c.args.kind) (sym here)
