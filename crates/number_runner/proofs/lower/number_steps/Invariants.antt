use Rattle.std.proofs.Common.{◌≡◌, ◌++◌, map, drop}
use Rattle.number_runner.specs.Steps.{step_of}
use Rattle.number_runner.proofs.lower.number_steps.Given as goal

abbrev pub invariant-loop-step : goal.invariant-loop-step
invariant-loop-step l = map step_of l.list ++ drop l.step-index l.steps ≡ l.steps
