use Rattle.std.proofs.Common.{arith, sym, ◌∙◌}
use Rattle.proof_text.proofs.DigitLaws.{value_some, value_none, value_all}
use Rattle.proof_text.proofs.digits.value_of.Goals as goal

pub returns-in_err-value : goal.returns-in_err-value
returns-in_err-value c =
    c.from_residual.ensures ∙ value_none c.args.digits.now c.loop-digit.digit-index c.loop-digit.value c.requires c.loop-digit-test.true c.loop-digit.invariant.value c.in_err-value.ensures

pub loop-digit-preserved : goal.loop-digit-preserved
loop-digit-preserved c =
    let more = value_some c.args.digits.now c.loop-digit.digit-index c.loop-digit.value _ c.requires c.loop-digit-test.true c.loop-digit.invariant.value c.in_ok-value.ensures in
    record { value = more.0; small = more.1 }

pub returns : goal.returns
returns c = value_all c.args.digits.now c.loop-digit.digit-index c.loop-digit.value (omega arith) c.loop-digit.invariant.small c.loop-digit.invariant.value
