use Rattle.std.proofs.Common.{◌≡◌, [], length, take}
use Rattle.clause_search.proofs.clause_trail.ClauseTrail.new.Given as goal

abbrev pub invariant-loop-at : goal.invariant-loop-at
invariant-loop-at l =
    (l.state.store ≡ take l.at l.system.clauses) × (l.state.trail ≡ record { ranges = l.system.ranges; rows = length l.system.rows; lits = []; levels = [] })
