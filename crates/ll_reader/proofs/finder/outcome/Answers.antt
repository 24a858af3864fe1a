use Rattle.std.proofs.Common.{length, subst}
use Rattle.ll_reader.specs.FileLines.{lines}
use Rattle.ll_reader.specs.Functions.{IsSoFar}
use Rattle.ll_reader.proofs.FinderLaws.{closed, unclosed}
use Rattle.ll_reader.proofs.finder.outcome.Goals as goal

pub returns-then-section-text : goal.returns-then-section-text
returns-then-section-text c = λ name so_far.
    closed c.args.text.now name c.in-Some.section (subst (IsSoFar c.args.text.now name (length (lines c.args.text.now))) c.in-Some.is so_far) c.if-section-text.true

pub returns-else-section-text : goal.returns-else-section-text
returns-else-section-text c = λ name so_far.
    unclosed c.args.text.now name c.in-Some.section (subst (IsSoFar c.args.text.now name (length (lines c.args.text.now))) c.in-Some.is so_far) c.if-section-text.false
