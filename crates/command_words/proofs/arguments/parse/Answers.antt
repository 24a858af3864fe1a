use Rattle.std.proofs.Common.{◌≡◌, ◌∙◌, sym, ap, Some, Ok, Err}
use Rattle.command_words.proofs.NumberLaws.{is_parsed, same_number}
use Rattle.command_words.proofs.arguments.parse.Goals as goal

pub returns-in_default-clause-only : goal.returns-in_default-clause-only
returns-in_default-clause-only c number small is = absurd (c.in_default.not-Ok number (is_parsed c.args.text.now c.parse.result number small is c.parse.ensures.value.0))

pub returns-then-is_decimal_of-clause-only : goal.returns-then-is_decimal_of-clause-only
returns-then-is_decimal_of-clause-only c number small is = ap Some (same_number c.args.text.now c.parse.result number c.in-Ok.number small is c.parse.ensures.value.0 c.in-Ok.is)

pub returns-else-is_decimal_of-clause-only : goal.returns-else-is_decimal_of-clause-only
returns-else-is_decimal_of-clause-only c number small is =
    let same = same_number c.args.text.now c.parse.result number c.in-Ok.number small is c.parse.ensures.value.0 c.in-Ok.is in
    let yes = c.is_decimal_of.ensures.1 (rw same is) in
    absurd (cc (yes, c.if-is_decimal_of.false))
