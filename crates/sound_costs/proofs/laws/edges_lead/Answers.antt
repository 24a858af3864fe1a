use Rattle.sound_costs.specs.Edges.{between}
use Rattle.sound_costs.proofs.EdgeLaws.{labels_differ, edges_sorted, edge_there, edge_leads}
use Rattle.sound_costs.proofs.laws.edges_lead.Goals as goal

pub returns-clause-sorted : goal.returns-clause-sorted
returns-clause-sorted c func = edges_sorted func

pub returns-clause-lead : goal.returns-clause-lead
returns-clause-lead c func rules from to = (edge_leads func (labels_differ func rules.names) (between from to), edge_there func from to)
