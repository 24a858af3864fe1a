use Rattle.ll_rules.specs.Items.{labels_of}
use Rattle.cost_table.proofs.OneTableLaws as tables
use Rattle.sound_costs.specs.Edges.{edges_of}
use Rattle.sound_costs.proofs.EdgeLaws.{labels_differ, labels_apart, edges_within, edges_sorted}
use Rattle.sound_costs.proofs.laws.one_table.Goals as goal

pub returns-clause-one : goal.returns-clause-one
returns-clause-one c text func rules = tables.one_table text (labels_of func) (edges_of func) (labels_apart func (labels_differ func rules.names)) (edges_within func) (edges_sorted func)

pub returns-clause-one_fault : goal.returns-clause-one_fault
returns-clause-one_fault c text func rules cause other some also_some is also =
    tables.one_fault text (labels_of func) (edges_of func) (labels_apart func (labels_differ func rules.names)) (edges_within func) (edges_sorted func) cause other is also some also_some

pub returns-clause-not_both : goal.returns-clause-not_both
returns-clause-not_both c text func rules = tables.not_both text (labels_of func) (edges_of func) (labels_apart func (labels_differ func rules.names)) (edges_within func) (edges_sorted func)
