use Rattle.std.proofs.Common.{length}
use Rattle.ll_token.proofs.PieceLaws.{ReadUpTo}
use Rattle.ll_token.proofs.escapes.bad_escape.Given as goal

abbrev pub invariant-loop-rest : goal.invariant-loop-rest
invariant-loop-rest l = ReadUpTo l.inner l.rest

abbrev pub decreases-loop-rest : goal.decreases-loop-rest
decreases-loop-rest l = length l.rest
