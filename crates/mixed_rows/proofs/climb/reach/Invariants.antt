use Rattle.mixed_rows.specs.Run.{IsKnown}
use Rattle.mixed_rows.proofs.climb.reach.Given as goal

abbrev pub invariant-loop : goal.invariant-loop
invariant-loop l = IsKnown l.run
