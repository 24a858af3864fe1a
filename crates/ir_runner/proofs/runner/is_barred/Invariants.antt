use Rattle.std.proofs.Common.{◌≡◌, drop}
use Rattle.std.specs.Prelude.{zip}
use Rattle.std.specs.List.{list_any}
use Rattle.ir_runs.specs.Walk.{is_barred}
use Rattle.ir_runner.proofs.runner.is_barred.Given as goal

abbrev pub invariant-loop-at : goal.invariant-loop-at
invariant-loop-at l = list_any is_barred (drop l.at (zip l.params l.args)) ≡ list_any is_barred (zip l.params l.args)
