use Rattle.std.proofs.Common.{refl}
use Rattle.proof_spelling.proofs.DraftLaws.{no_goal}
use Rattle.proof_spelling.proofs.draft.after_goal.Goals as goal

pub returns : goal.returns
returns c = rw (c.in-Goal.is, c.new.ensures) (refl, refl)

pub returns-in_default : goal.returns-in_default
returns-in_default c = no_goal c.args.line c.in_default.not-Goal
