use Rattle.std.proofs.Common.{◌≡◌, ◌++◌, map, take}
use Rattle.integer_splits.specs.Answer.{pending_nodes}
use Rattle.integer_splits.specs.Boxes.{opened}
use Rattle.integer_splits.proofs.kept.opened.Given as goal

abbrev pub invariant-loop-node : goal.invariant-loop-node
invariant-loop-node l = l.tree ≡ map opened (take l.node-index l.nodes)

abbrev pub invariant-loop-box : goal.invariant-loop-box
invariant-loop-box l = l.tree ≡ map opened l.nodes ++ pending_nodes l._box
