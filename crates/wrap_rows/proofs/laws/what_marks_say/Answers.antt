use Rattle.wrap_rows.proofs.BlockLaws.{marks-law}
use Rattle.wrap_rows.proofs.laws.what_marks_say.Goals as goal

pub returns : goal.returns
returns c = marks-law
