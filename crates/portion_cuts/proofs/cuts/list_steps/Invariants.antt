use Rattle.std.proofs.Common.{◌≡◌, ◌+◌, length}
use Rattle.portion_cuts.proofs.CutLaws.{IsLeft}
use Rattle.portion_cuts.proofs.cuts.list_steps.Given as goal

abbrev pub invariant-loop-edge : goal.invariant-loop-edge
invariant-loop-edge l = record {
  size : length l.steps.items ≡ l.blocks + 1;
  left : IsLeft l.edges l.edge-index l.steps.items;
}
