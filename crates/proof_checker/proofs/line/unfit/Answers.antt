use Rattle.std.proofs.Common.{sym, ◌∙◌, refl}
use Rattle.proof_checker.proofs.line.unfit.Goals as goal

pub returns-then-stands : goal.returns-then-stands
returns-then-stands c = λ base at is. rw (sym (c.stands.ensures base at is) ∙ c.if-stands.true) refl

pub returns-else-stands : goal.returns-else-stands
returns-else-stands c = λ base at is. rw (sym (c.stands.ensures base at is) ∙ c.if-stands.false) refl
