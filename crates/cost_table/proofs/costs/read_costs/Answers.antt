use Rattle.cost_table.specs.Table.{spelled}
use Rattle.cost_table.proofs.OneTableLaws.{only_costs, only_fault, one_table, one_fault, not_both}
use Rattle.cost_table.proofs.costs.read_costs.Goals as goal

pub returns-clause-only : goal.returns-clause-only
returns-clause-only c = only_costs c.args.text.now (spelled c.args.labels.now) c.args.edges.now c.requires.different c.requires.within c.requires.sorted c.read_table.result c.read_table.ensures.table c.read_table.ensures.fault

pub returns-clause-only_fault : goal.returns-clause-only_fault
returns-clause-only_fault c = only_fault c.args.text.now (spelled c.args.labels.now) c.args.edges.now c.requires.different c.requires.within c.requires.sorted c.read_table.result c.read_table.ensures.table c.read_table.ensures.fault

pub returns-clause-one : goal.returns-clause-one
returns-clause-one c = one_table c.args.text.now (spelled c.args.labels.now) c.args.edges.now c.requires.different c.requires.within c.requires.sorted

pub returns-clause-one_fault : goal.returns-clause-one_fault
returns-clause-one_fault c cause other some also_some is also = one_fault c.args.text.now (spelled c.args.labels.now) c.args.edges.now c.requires.different c.requires.within c.requires.sorted cause other is also some also_some

pub returns-clause-not_both : goal.returns-clause-not_both
returns-clause-not_both c = not_both c.args.text.now (spelled c.args.labels.now) c.args.edges.now c.requires.different c.requires.within c.requires.sorted
