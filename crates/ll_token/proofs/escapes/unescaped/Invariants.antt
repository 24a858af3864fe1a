use Rattle.std.proofs.Common.{length}
use Rattle.ll_token.specs.Names.{StandsFor}
use Rattle.ll_token.proofs.escapes.unescaped.Given as goal

abbrev pub invariant-loop-byte : goal.invariant-loop-byte
invariant-loop-byte l = StandsFor l.inner l.bytes.items l.rest

abbrev pub decreases-loop-byte : goal.decreases-loop-byte
decreases-loop-byte l = length l.rest
