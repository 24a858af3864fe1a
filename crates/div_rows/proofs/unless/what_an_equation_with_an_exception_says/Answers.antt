use Rattle.div_rows.proofs.UnlessLaws.{unless-law}
use Rattle.div_rows.proofs.unless.what_an_equation_with_an_exception_says.Goals as goal

pub returns : goal.returns
returns c = unless-law
