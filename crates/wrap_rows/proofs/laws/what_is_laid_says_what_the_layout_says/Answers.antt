use Rattle.wrap_rows.proofs.LayoutLaws.{laid-says}
use Rattle.wrap_rows.proofs.laws.what_is_laid_says_what_the_layout_says.Goals as goal

pub returns : goal.returns
returns c = laid-says
