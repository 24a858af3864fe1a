use Rattle.std.proofs.Common.{◌≡◌, drop}
use Rattle.ir_runner.specs.Slots.{CanRun, slots_after}
use Rattle.ir_runner.proofs.block.run_steps.Given as goal

-- the steps that are left can run, and lead to the slots that all of them lead to
abbrev pub invariant-loop-step : goal.invariant-loop-step
invariant-loop-step l = record {
  can : CanRun (drop l.step-index l.steps) l.slots;
  after : slots_after (drop l.step-index l.steps) l.slots ≡ slots_after l.steps l.initial.slots;
}
