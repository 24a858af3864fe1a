use Rattle.std.proofs.Common.{◌+◌, sym, arith}
use Rattle.cost_table.proofs.DigitLaws.{value-more, value-past}
use Rattle.cost_table.proofs.digits.value_of.Goals as goal

pub returns-then-value-limit-clause-value : goal.returns-then-value-limit-clause-value
returns-then-value-limit-clause-value c =
    let more = value-more c.args.digits.now c.loop-digit.digit-index c.loop-digit.value c.requires.digits c.loop-digit-test.true c.loop-digit.invariant.value in
    sym (value-past c.args.digits.now (c.loop-digit.digit-index + 1) _ c.args.limit more (omega arith))

pub loop-digit-preserved : goal.loop-digit-preserved
loop-digit-preserved c =
    let more = value-more c.args.digits.now c.loop-digit.digit-index c.loop-digit.value c.requires.digits c.loop-digit-test.true c.loop-digit.invariant.value in
    record { value = omega arith; below = λ _. omega arith; small = omega arith }
