use Rattle.std.proofs.Common.{take, All}
use Rattle.bound_trail.specs.Trail.{box}
use Rattle.clause_search.specs.Settled.{HasTrue}
use Rattle.mixed_solver.proofs.mixed.Mixed.choice.Given as goal

abbrev pub invariant-loop-at : goal.invariant-loop-at
invariant-loop-at l = All (HasTrue (box l.self.level.search.trail)) (take l.at l.self.level.system.now.clauses)
