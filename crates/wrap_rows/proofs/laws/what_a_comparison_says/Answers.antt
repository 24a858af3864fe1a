use Rattle.wrap_rows.proofs.BlockLaws.{compared-law}
use Rattle.wrap_rows.proofs.laws.what_a_comparison_says.Goals as goal

pub returns : goal.returns
returns c = compared-law
