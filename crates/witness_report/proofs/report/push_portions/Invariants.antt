use Rattle.std.proofs.Common.{◌≡◌, ◌++◌, take}
use Rattle.std.specs.List.{flat_map}
use Rattle.witness_report.specs.Report.{portion_text}
use Rattle.witness_report.proofs.report.push_portions.Given as goal

abbrev pub invariant-loop-portion : goal.invariant-loop-portion
invariant-loop-portion l = l.text.items ≡ l.initial.text.items ++ flat_map portion_text (take l.portion-index l.portions)
