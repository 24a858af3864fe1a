use Rattle.ir_pieces.proofs.RangeLaws.{range_stands, range_takes, range_means}
use Rattle.ir_pieces.proofs.laws.what_a_range_has.Goals as goal

pub returns-clause-stands : goal.returns-clause-stands
returns-clause-stands c = range_stands

pub returns-clause-takes : goal.returns-clause-takes
returns-clause-takes c = range_takes

pub returns-clause-means : goal.returns-clause-means
returns-clause-means c = range_means
