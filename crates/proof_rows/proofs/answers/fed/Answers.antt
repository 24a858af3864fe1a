use Rattle.std.proofs.Common.{[]}
use Rattle.proof_rows.proofs.answers.fed.Goals as goal

pub loop-line-init : goal.loop-line-init
loop-line-init c = (_, _, [], c.in_ok-checker.ensures)

pub loop-line-preserved : goal.loop-line-preserved
loop-line-preserved c =
    let i = c.loop-line.invariant in
    (i.0, i.1, _, c.in_ok-answer.ensures.read i.0 i.1 i.2 i.3)
