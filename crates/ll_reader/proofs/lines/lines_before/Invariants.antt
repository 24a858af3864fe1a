use Rattle.std.proofs.Common.{length, ◌-◌}
use Rattle.ll_reader.proofs.FileLineLaws.{ArePassed}
use Rattle.ll_reader.proofs.lines.lines_before.Given as goal

abbrev pub invariant-loop-len : goal.invariant-loop-len
invariant-loop-len l = ArePassed l.kind l.bytes l.lines l.len

abbrev pub decreases-loop-len : goal.decreases-loop-len
decreases-loop-len l = length l.bytes - l.len
