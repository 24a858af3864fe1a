use Rattle.mixed_solver.specs.Mixed.{IsAtGround}
use Rattle.mixed_rows.proofs.calls.next_level.Given as goal

abbrev pub invariant-loop-cut : goal.invariant-loop-cut
invariant-loop-cut l = IsAtGround l.mixed
