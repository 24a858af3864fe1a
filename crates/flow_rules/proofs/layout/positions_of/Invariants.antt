use Rattle.std.proofs.Common.{◌≡◌, ◌<◌, ℕ, length, get_or}
use Rattle.flow_rules.proofs.layout.positions_of.Given as goal

abbrev pub invariant-loop-position : goal.invariant-loop-position
invariant-loop-position l = record {
  size : length l.positions.items ≡ length l.order;
  there : (k : ℕ) → k < l.position → get_or l.positions.items (get_or l.order k 0) 0 ≡ k;
}
