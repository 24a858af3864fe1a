use Rattle.std.proofs.Common.{◌≡◌, ◌<◌, ℕ, length, get_or, drop, map, zip}
use Rattle.std.specs.List.{list_any}
use Rattle.ir_meaning.specs.declared.value.Val.TheVariants.{Num, Poison}
use Rattle.ir_runs.specs.Walk.{is_barred}
use Rattle.ir_runner.specs.Start.{taken}
use Rattle.number_runner.proofs.runner.place_arguments.Given as goal

abbrev pub invariant-loop-at : goal.invariant-loop-at
invariant-loop-at l = record {
  placed : (k : ℕ) → k < l.at → get_or (map Num l.numbers) k Poison ≡ get_or (taken l.params l.args) k Poison;
  in_ranges : list_any is_barred (drop l.at (zip l.params l.args)) ≡ list_any is_barred (zip l.params l.args);
  count : length l.numbers ≡ length l.initial.numbers;
}
