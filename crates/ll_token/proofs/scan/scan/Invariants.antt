use Rattle.std.proofs.Common.{◌-◌, length}
use Rattle.ll_token.proofs.ScanLaws.{ReadTo}
use Rattle.ll_token.proofs.scan.scan.Given as goal

abbrev pub invariant-loop-token : goal.invariant-loop-token
invariant-loop-token l = ReadTo l.first_line l.text l.tokens l.at l.line

abbrev pub decreases-loop-token : goal.decreases-loop-token
decreases-loop-token l = length l.text - l.at
