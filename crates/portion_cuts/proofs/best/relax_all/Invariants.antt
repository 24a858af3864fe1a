use Rattle.std.proofs.Common.{◌≡◌, ◌≤◌, length, drop}
use Rattle.portion_cuts.specs.Paths.{costs_at}
use Rattle.portion_cuts.specs.Best.{AreBest, IsBounded}
use Rattle.portion_cuts.proofs.best.relax_all.Given as goal

abbrev pub invariant-loop-left : goal.invariant-loop-left
invariant-loop-left l = record {
  left : l.left ≤ length l.edges;
  size : length l.best ≡ length l.sound.flow.order;
  best : AreBest (costs_at l.sound l.costs) l.portion (drop l.left l.sound.flow.edges) l.best;
  bounded : IsBounded l.best;
}

abbrev pub decreases-loop-left : goal.decreases-loop-left
decreases-loop-left l = l.left
