use Rattle.path_values.proofs.WalkLaws.{way_of, values_of, path_of}
use Rattle.path_values.proofs.laws.walks_go_a_way.Goals as goal

pub returns-clause-way : goal.returns-clause-way
returns-clause-way c func args path vals rules walk = way_of func args path vals rules walk

pub returns-clause-values : goal.returns-clause-values
returns-clause-values c func args path vals walk = values_of func args path vals walk

pub returns-clause-path : goal.returns-clause-path
returns-clause-path c func args path vals rules walk = path_of func args path vals rules walk
