use Rattle.ir_runs.proofs.WidthLaws.{walk_fits}
use Rattle.ir_runs.proofs.law.values_fit_their_widths.Goals as goal

pub returns : goal.returns
returns c = walk_fits
