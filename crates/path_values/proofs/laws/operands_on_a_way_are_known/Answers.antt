use Rattle.path_values.proofs.ValueLaws.{body_known, end_known}
use Rattle.path_values.proofs.laws.operands_on_a_way_are_known.Goals as goal

pub returns-clause-body : goal.returns-clause-body
returns-clause-body c func blocks rules way = body_known func rules blocks way

pub returns-clause-ends : goal.returns-clause-ends
returns-clause-ends c func blocks rules way = end_known func rules blocks way
