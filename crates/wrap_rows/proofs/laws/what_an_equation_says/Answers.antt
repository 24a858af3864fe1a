use Rattle.wrap_rows.proofs.BlockLaws.{equals-law}
use Rattle.wrap_rows.proofs.laws.what_an_equation_says.Goals as goal

pub returns : goal.returns
returns c = equals-law
