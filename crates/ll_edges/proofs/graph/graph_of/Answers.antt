use Rattle.ll_edges.proofs.EdgeLaws.{edges_lead, all_made}
use Rattle.ll_edges.proofs.graph.graph_of.Goals as goal

pub returns-clause-edges : goal.returns-clause-edges
returns-clause-edges c =
    edges_lead c.args.labels.now c.args.func.now.blocks c.loop-at.graph
    (all_made c.args.labels.now c.args.func.now.blocks c.items-blocks.result.now c.loop-at.graph c.loop-at.at c.items-blocks.ensures c.loop-at-test.false c.loop-at.invariant)
