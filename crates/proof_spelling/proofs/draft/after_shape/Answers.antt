use Rattle.std.proofs.Common.{refl}
use Rattle.proof_spelling.proofs.DraftLaws.{no_shape}
use Rattle.proof_spelling.proofs.draft.after_shape.Goals as goal

pub returns : goal.returns
returns c = rw c.in-Shape.is (refl, refl)

pub returns-in_default : goal.returns-in_default
returns-in_default c = no_shape c.args.line c.in_default.not-Shape
