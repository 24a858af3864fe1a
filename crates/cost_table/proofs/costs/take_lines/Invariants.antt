use Rattle.std.proofs.Common.{◌≡◌, length}
use Rattle.cost_table.proofs.TableLaws.{Taken}
use Rattle.cost_table.proofs.costs.take_lines.Given as goal

abbrev pub invariant-loop-line : goal.invariant-loop-line
invariant-loop-line l = record {
  taken : Taken l.version l.labels l.edges l.initial.lines l.lines l.number l.ledger.blocks.items l.ledger.edges.items;
  blocks : length l.ledger.blocks.items ≡ length l.labels;
  edges : length l.ledger.edges.items ≡ length l.edges;
}

abbrev pub decreases-loop-line : goal.decreases-loop-line
decreases-loop-line l = length l.lines
