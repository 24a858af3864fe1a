use Rattle.path_values.proofs.ValueLaws.{the_values, only}
use Rattle.path_values.proofs.laws.values_on_a_way_are_one.Goals as goal

pub returns-clause-told : goal.returns-clause-told
returns-clause-told c func args blocks value rules way has = the_values func rules blocks way args value has

pub returns-clause-one : goal.returns-clause-one
returns-clause-one c func args blocks value rules way has = only func rules blocks way args value has
