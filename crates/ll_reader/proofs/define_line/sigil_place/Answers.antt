use Rattle.std.proofs.Common.{arith}
use Rattle.ll_reader.proofs.DefineLineLaws.{no_sigil, pass_quote, pass_other, sigil_here, no_sigil_here}
use Rattle.ll_reader.proofs.define_line.sigil_place.Goals as goal
use Rattle.ll_reader.proofs.define_line.sigil_place.Goals.{else-byte-eq64-via-then-byte-eq64+else-not-in_string, else-byte-eq64-via-else-byte-eq64}

pub loop-at-init : goal.loop-at-init
loop-at-init c = no_sigil c.args.line.now

pub loop-at-preserved-then-byte-eq34 : goal.loop-at-preserved-then-byte-eq34
loop-at-preserved-then-byte-eq34 c = pass_quote c.args.line.now c.loop-at.at c.loop-at.in_string c.loop-at.invariant c.loop-at-test.true c.if-byte-eq34.true

pub returns-then-not-in_string : goal.returns-then-not-in_string
returns-then-not-in_string c = sigil_here c.args.line.now c.loop-at.at c.loop-at.in_string c.loop-at.invariant c.loop-at-test.true c.if-byte-eq64.true c.if-not-in_string.true

pub loop-at-preserved : goal.loop-at-preserved
loop-at-preserved c =
    pass_other c.args.line.now c.loop-at.at c.loop-at.in_string c.loop-at.invariant c.loop-at-test.true c.if-byte-eq34.false
    (no_sigil_here c.args.line.now c.loop-at.at c.loop-at.in_string c.loop-at.invariant c.loop-at-test.true
    (λ sigil. elim c.else-byte-eq64.branch [
      | else-byte-eq64-via-then-byte-eq64+else-not-in_string w ↦ w.if-not-in_string.false
      | else-byte-eq64-via-else-byte-eq64 w ↦ absurd (w.if-byte-eq64.false sigil)
    ]))

pub returns : goal.returns
returns c = λ other before. c.loop-at.invariant.none other (let all = c.loop-at-test.false in omega arith)
