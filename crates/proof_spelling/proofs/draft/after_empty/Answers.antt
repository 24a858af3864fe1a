use Rattle.proof_spelling.proofs.DraftLaws.{no_end}
use Rattle.proof_spelling.proofs.draft.after_empty.Goals as goal

pub returns-in_default : goal.returns-in_default
returns-in_default c = no_end c.args.opened.ended c.args.opened.around c.args.line c.requires c.in_default.not-End
