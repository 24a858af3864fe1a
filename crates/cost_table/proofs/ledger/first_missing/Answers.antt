use Rattle.std.proofs.Common.{◌≡◌, ℕ, Some, None, get_or, below_more}
use Rattle.cost_table.proofs.ledger.first_missing.Goals as goal

pub loop-at-preserved : goal.loop-at-preserved
loop-at-preserved c =
    let here : (cost : ℕ) × (get_or c.args.costs.now c.loop-at.at None ≡ Some cost) = (_, c.in-Some.is) in
    below_more _ _ c.loop-at.invariant here
