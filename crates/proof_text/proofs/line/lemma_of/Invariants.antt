use Rattle.std.proofs.Common.{◌≡◌, length}
use Rattle.proof_text.specs.Reading.{gathered}
use Rattle.proof_text.specs.Words.{words_after}
use Rattle.proof_text.specs.Line.{lemma_of}
use Rattle.proof_text.proofs.ReadingLaws.{before_lemma}
use Rattle.proof_text.proofs.line.lemma_of.Given as goal

-- what was read so far, before what is left, is the whole
abbrev pub invariant-loop-word : goal.invariant-loop-word
invariant-loop-word l = before_lemma (gathered l.clause.fits l.clause.items) (lemma_of (words_after l.left)) ≡ lemma_of (words_after l.fn.rest)

abbrev pub decreases-loop-word : goal.decreases-loop-word
decreases-loop-word l = length l.left
