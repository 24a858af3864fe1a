use Rattle.std.proofs.Common.{◌≡◌, ◌++◌, take}
use Rattle.std.specs.List.{flat_map}
use Rattle.witness_report.specs.Parts.{spaced_arg}
use Rattle.witness_report.proofs.parts.push_args.Given as goal

abbrev pub invariant-loop-arg : goal.invariant-loop-arg
invariant-loop-arg l = l.text.items ≡ l.initial.text.items ++ flat_map spaced_arg (take l.arg-index l.args)
