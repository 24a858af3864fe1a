use Rattle.std.proofs.Common.{length}
use Rattle.portion_cuts.specs.Paths.{costs_at}
use Rattle.portion_cuts.specs.Portions.{portions_of}
use Rattle.portion_cuts.proofs.CoverLaws.{covers, sum_of}
use Rattle.portion_cuts.proofs.LabelLaws.{path_costs}
use Rattle.portion_cuts.proofs.laws.spending_adds_up.Goals as goal

pub returns-clause-parts : goal.returns-clause-parts
returns-clause-parts c it costs path sound is = sum_of (costs_at it costs) path 0 (portions_of it) (length it.flow.order) (covers it sound)

pub returns-clause-all : goal.returns-clause-all
returns-clause-all c it costs path sound are is = path_costs it sound costs are path is
