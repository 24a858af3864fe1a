use Rattle.std.proofs.Common.{◌≡◌, get_or, take, map}
use Rattle.ll_phi_rules.proofs.counts.is_column.Given as goal

abbrev pub invariant-loop-at : goal.invariant-loop-at
invariant-loop-at l = take l.at l.numbers ≡ map (λ row. get_or row l.place 0) (take l.at l.rows)
