use Rattle.std.proofs.Common.{◌≡◌, ◌++◌, take, All, map}
use Rattle.proof_spelling.specs.Lines.{node_line}
use Rattle.proof_spelling.specs.Text.{lines_bytes}
use Rattle.proof_spelling.specs.Ranges.{LineFits}
use Rattle.proof_spelling.proofs.printing.push_nodes.Given as goal

abbrev pub invariant-loop-node : goal.invariant-loop-node
invariant-loop-node l = (l.text.items ≡ l.initial.text.items ++ lines_bytes (map node_line (take l.node-index l.nodes))) × All LineFits (map node_line (take l.node-index l.nodes))
