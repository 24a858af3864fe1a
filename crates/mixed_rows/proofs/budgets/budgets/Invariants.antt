use Rattle.mixed_rows.specs.Run.{IsKnown}
use Rattle.mixed_rows.proofs.budgets.budgets.Given as goal

abbrev pub invariant-loop-budget : goal.invariant-loop-budget
invariant-loop-budget l = IsKnown l.run
