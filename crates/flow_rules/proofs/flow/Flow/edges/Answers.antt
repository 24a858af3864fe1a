use Rattle.flow_rules.proofs.StoredLaws.{edges_forward}
use Rattle.flow_rules.proofs.flow.Flow.edges.Goals as goal

pub returns-clause-forward : goal.returns-clause-forward
returns-clause-forward c = rw (← c.self.view_is) (edges_forward c.self.inside c.self.invariant)
