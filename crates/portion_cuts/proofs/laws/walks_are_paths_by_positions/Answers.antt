use Rattle.portion_cuts.proofs.WalkPaths.{path_of_walk}
use Rattle.portion_cuts.proofs.laws.walks_are_paths_by_positions.Goals as goal

pub returns : goal.returns
returns c it args labels vals sound = path_of_walk it sound args labels vals
