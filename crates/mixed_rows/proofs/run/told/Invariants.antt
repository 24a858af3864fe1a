use Rattle.mixed_rows.specs.Run.{IsKnown}
use Rattle.mixed_rows.proofs.run.told.Given as goal

abbrev pub invariant-loop-call : goal.invariant-loop-call
invariant-loop-call l = IsKnown l.run
