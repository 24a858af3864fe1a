use Rattle.std.proofs.Common.{◌≡◌, drop}
use Rattle.ir_runner.specs.Slots.{CanMove, moved}
use Rattle.ir_runner.proofs.block.run_moves.Given as goal

abbrev pub invariant-loop-step : goal.invariant-loop-step
invariant-loop-step l = record {
  can : CanMove (drop l.step-index l.moves) l.slots;
  after : moved (drop l.step-index l.moves) l.slots ≡ moved l.moves l.initial.slots;
}
