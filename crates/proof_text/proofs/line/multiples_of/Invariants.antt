use Rattle.std.proofs.Common.{◌≡◌, length}
use Rattle.proof_text.specs.Reading.{joined, gathered}
use Rattle.proof_text.specs.Words.{words_after}
use Rattle.proof_text.specs.Line.{multiples_of}
use Rattle.proof_text.proofs.line.multiples_of.Given as goal

-- what was read so far, before what is left, is the whole
abbrev pub invariant-loop-by : goal.invariant-loop-by
invariant-loop-by l = joined (gathered l.parts.fits l.parts.items) (multiples_of (words_after l.left)) ≡ multiples_of (words_after l.fn.rest)

abbrev pub decreases-loop-by : goal.decreases-loop-by
decreases-loop-by l = length l.left
