use Rattle.std.proofs.Common.{◌≡◌, length}
use Rattle.proof_text.specs.Reading.{joined, gathered}
use Rattle.proof_text.specs.Words.{words_after}
use Rattle.proof_text.specs.Line.{hints_of}
use Rattle.proof_text.proofs.line.hints_of.Given as goal

-- what was read so far, before what is left, is the whole
abbrev pub invariant-loop-word : goal.invariant-loop-word
invariant-loop-word l = joined (gathered l.hints.fits l.hints.items) (hints_of (words_after l.left)) ≡ hints_of (words_after l.fn.rest)

abbrev pub decreases-loop-word : goal.decreases-loop-word
decreases-loop-word l = length l.left
