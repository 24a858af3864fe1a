use Rattle.search_rows.specs.Run.{IsKnown}
use Rattle.search_rows.proofs.solve.solve.Given as goal

abbrev pub invariant-loop : goal.invariant-loop
invariant-loop l = IsKnown l.run
