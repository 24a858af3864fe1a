use Rattle.std.proofs.Common.{length}
use Rattle.proof_spelling.proofs.ParseLaws.{IsRead}
use Rattle.proof_spelling.proofs.parsing.parse.Given as goal

-- the lines behind which the text is left are those of what is kept
abbrev pub invariant-loop-line : goal.invariant-loop-line
invariant-loop-line l = IsRead l.text l.left l.number l.draft

abbrev pub decreases-loop-line : goal.decreases-loop-line
decreases-loop-line l = length l.left
