use Rattle.std.proofs.Common.{◌≤◌, ◌-◌, length}
use Rattle.cost_table.proofs.HalvingLaws.{AreBefore, AreBehind}
use Rattle.cost_table.proofs.places.edge_between.Given as goal

abbrev pub invariant-loop-low : goal.invariant-loop-low
invariant-loop-low l = record {
  within : l.high ≤ length l.edges;
  before : AreBefore l.edges l.from l.to l.low;
  behind : AreBehind l.edges l.from l.to l.high;
}

abbrev pub decreases-loop-low : goal.decreases-loop-low
decreases-loop-low l = l.high - l.low
