use Rattle.std.proofs.Common.{sym, ◌∙◌, arith}
use Rattle.ll_grammar.proofs.WordLaws.{value_below-more, value_below-past, value_below-end}
use Rattle.ll_grammar.proofs.words.value_below.Goals as goal

pub returns-then-value-limit-clause-value : goal.returns-then-value-limit-clause-value
returns-then-value-limit-clause-value c =
    sym (sym c.loop-digit.invariant.value ∙ value_below-past c.args.limit c.loop-digit.value c.from.result c.loop-digit.digit-index c.args.digits.now (c.from.ensures ∙ c.saturating_sub.ensures) c.loop-digit-test.true c.if-value-limit.true)

pub loop-digit-preserved : goal.loop-digit-preserved
loop-digit-preserved c = record {
  value = sym (value_below-more c.args.limit c.loop-digit.value c.from.result c.loop-digit.digit-index c.args.digits.now (c.from.ensures ∙ c.saturating_sub.ensures) c.loop-digit-test.true (omega arith)) ∙ c.loop-digit.invariant.value;
  below = omega arith;
}

pub returns-clause-value : goal.returns-clause-value
returns-clause-value c =
    sym (sym c.loop-digit.invariant.value ∙ value_below-end c.args.limit c.loop-digit.value c.loop-digit.digit-index c.args.digits.now (omega arith))
