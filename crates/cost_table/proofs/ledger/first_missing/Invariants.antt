use Rattle.std.proofs.Common.{◌≡◌, ◌<◌, ℕ, Some, None, get_or}
use Rattle.cost_table.proofs.ledger.first_missing.Given as goal

abbrev pub invariant-loop-at : goal.invariant-loop-at
invariant-loop-at l = (other : ℕ) → other < l.at → (cost : ℕ) × (get_or l.costs other None ≡ Some cost)
