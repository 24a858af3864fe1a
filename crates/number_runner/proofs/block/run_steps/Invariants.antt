use Rattle.std.proofs.Common.{◌≡◌, length, map, drop}
use Rattle.ir_meaning.specs.declared.value.Val.TheVariants.{Num}
use Rattle.ir_runner.specs.Slots.{CanRun, slots_after}
use Rattle.number_runner.specs.Steps.{step_of}
use Rattle.number_runner.proofs.block.run_steps.Given as goal

-- the steps that are left can run, and lead to the slots that all of them lead to
abbrev pub invariant-loop-step : goal.invariant-loop-step
invariant-loop-step l = record {
  can : CanRun (drop l.step-index (map step_of l.steps)) (map Num l.numbers);
  after : slots_after (drop l.step-index (map step_of l.steps)) (map Num l.numbers) ≡ slots_after (map step_of l.steps) (map Num l.initial.numbers);
  count : length l.numbers ≡ length l.initial.numbers;
}
