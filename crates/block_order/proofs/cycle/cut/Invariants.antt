use Rattle.std.proofs.Common.{◌≡◌, ◌++◌, ◌∷◌, List, ℕ, reverse, length}
use Rattle.std.specs.List.{Contains}
use Rattle.block_order.proofs.cycle.cut.Given as goal

abbrev pub invariant-loop-block : goal.invariant-loop-block
invariant-loop-block l = record {
  left : Contains l.walk.items l.at;
  parts : (before : List ℕ) × (l.cycle.items ≡ l.at ∷ before) × (reverse l.initial.walk.items ≡ before ++ reverse l.walk.items);
}

abbrev pub decreases-loop-block : goal.decreases-loop-block
decreases-loop-block l = length l.walk.items
