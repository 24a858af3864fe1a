use Rattle.std.proofs.Common.{length, ◌-◌}
use Rattle.ll_reader.specs.FileLines.{lines}
use Rattle.ll_reader.specs.Functions.{IsScanned}
use Rattle.ll_reader.proofs.finder.find.Given as goal

abbrev pub invariant-loop-section : goal.invariant-loop-section
invariant-loop-section l = IsScanned l.text l.name l.before l.at l.found

abbrev pub decreases-loop-section : goal.decreases-loop-section
decreases-loop-section l = length (lines l.text) - l.before
