use Rattle.search_rows.specs.Run.{IsKnown}
use Rattle.search_rows.proofs.run.told.Given as goal

abbrev pub invariant-loop-call : goal.invariant-loop-call
invariant-loop-call l = IsKnown l.run
