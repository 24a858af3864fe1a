use Rattle.std.proofs.Common.{ℕ, ◌<◌}
use Rattle.block_order.specs.Marks.{IsTakeable}
use Rattle.block_order.proofs.ready.first_open.Given as goal

abbrev pub invariant-loop-block : goal.invariant-loop-block
invariant-loop-block l = (k : ℕ) → k < l.block → IsTakeable l.taken l.blocked k → ⊥
