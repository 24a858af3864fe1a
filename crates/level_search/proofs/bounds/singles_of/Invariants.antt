use Rattle.std.proofs.Common.{◌≡◌, take}
use Rattle.mix_system.specs.Bounds.{unit_bounds}
use Rattle.level_search.proofs.bounds.singles_of.Given as goal

abbrev pub invariant-loop-at : goal.invariant-loop-at
invariant-loop-at l = l.singles.items ≡ unit_bounds (take l.at l.system.clauses)
