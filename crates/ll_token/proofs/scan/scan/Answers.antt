use Rattle.std.proofs.Common.{take, drop, arith}
use Rattle.ll_token.proofs.ScanLaws.{reads_on}
use Rattle.ll_token.proofs.scan.scan.Goals as goal

pub loop-token-smaller : goal.loop-token-smaller
loop-token-smaller c =
    let follows = rw c.in-Ok-Some.field-0-is at c.in-Ok-Some.ensures in
    let on = reads_on c.args.first_line c.args.text.now c.loop-token.tokens c.loop-token.at c.loop-token.line c.in-Ok-Some.token c.loop-token.invariant (follows c.args.first_line c.loop-token.invariant.line_is) in
    omega (arith, on.0.within, on.1)

pub loop-token-preserved : goal.loop-token-preserved
loop-token-preserved c =
    let follows = rw c.in-Ok-Some.field-0-is at c.in-Ok-Some.ensures in
    rw c.in_ok-push-in-Ok-Some.ensures.ok
    (reads_on c.args.first_line c.args.text.now c.loop-token.tokens c.loop-token.at c.loop-token.line c.in-Ok-Some.token c.loop-token.invariant (follows c.args.first_line c.loop-token.invariant.line_is)).0

pub returns-in-Ok-None : goal.returns-in-Ok-None
returns-in-Ok-None c =
    let follows = rw c.in-Ok-None.field-0-is at c.in-Ok-None.ensures in
    (take c.loop-token.at c.args.text.now, drop c.loop-token.at c.args.text.now, c.loop-token.invariant.leads, follows c.args.first_line c.loop-token.invariant.line_is)
