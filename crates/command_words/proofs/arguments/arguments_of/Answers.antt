use Rattle.std.proofs.Common.{◌≡◌, arith, rules}
use Rattle.command_words.specs.Arguments.{widths_of}
use Rattle.command_words.proofs.ArgumentLaws.{one_more, too_few, not_all}
use Rattle.command_words.proofs.arguments.arguments_of.Goals as goal

pub loop-place-preserved : goal.loop-place-preserved
loop-place-preserved c =
    record { so_far = rw c.in_ok-push-in-Some.ensures.ok (one_more (widths_of c.args.params.now) c.args.words.now c.loop-place.args c.loop-place.place c.in-Some.arg c.loop-place.invariant.so_far (omega (arith, c.loop-place-test.true)) c.index-words-place.result c.index-words-place.is c.in-Some.ensures) }

pub returns-else-len-params : goal.returns-else-len-params
returns-else-len-params c =
    rw c.len-else-len-params.ensures (too_few (widths_of c.args.params.now) c.args.words.now c.loop-place.args c.loop-place.place c.loop-place.invariant.so_far (search rules) (not_all c.args.params.now c.loop-place.args c.len.result c.len.ensures c.if-len-params.false))
