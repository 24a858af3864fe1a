use Rattle.std.proofs.Common.{◌≡◌, ◌++◌, drop}
use Rattle.number_runner.proofs.lower.number_jump.Given as goal

abbrev pub invariant-loop-step : goal.invariant-loop-step
invariant-loop-step g l = l.moves ++ drop l.step-index l.jump.moves ≡ l.jump.moves
