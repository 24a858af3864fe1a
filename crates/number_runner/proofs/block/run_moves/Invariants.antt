use Rattle.std.proofs.Common.{◌≡◌, length, map, drop}
use Rattle.ir_meaning.specs.declared.value.Val.TheVariants.{Num}
use Rattle.ir_runner.specs.Slots.{CanMove, moved}
use Rattle.number_runner.proofs.block.run_moves.Given as goal

abbrev pub invariant-loop-step : goal.invariant-loop-step
invariant-loop-step l = record {
  can : CanMove (drop l.step-index l.moves) (map Num l.numbers);
  after : moved (drop l.step-index l.moves) (map Num l.numbers) ≡ moved l.moves (map Num l.initial.numbers);
  count : length l.numbers ≡ length l.initial.numbers;
}
