use Rattle.flow_graph.proofs.BackwardLaws.{marked_before}
use Rattle.flow_graph.proofs.path.path_to.Goals as goal

pub before-at-requires-clause-exists : goal.before-at-requires-clause-exists
before-at-requires-clause-exists c =
    marked_before c.args.edges.now c.args.without c.args.entry c.loop-at.at c.args.reached.now c.requires.forward c.requires.marks c.loop-at.invariant.within c.loop-at.invariant.marked c.loop-at-test.true
