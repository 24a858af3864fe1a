use Rattle.std.proofs.Common.{refl}
use Rattle.proof_checker.specs.Place.{AtShape, AtGoal}
use Rattle.proof_checker.proofs.first_lines.after_header.Goals as goal

pub returns-in-One : goal.returns-in-One
returns-in-One c = λ base. rw c.in-One.is (AtGoal, refl, refl)

pub returns-in-Two : goal.returns-in-Two
returns-in-Two c = λ base. rw c.in-Two.is (AtShape, refl, refl)
