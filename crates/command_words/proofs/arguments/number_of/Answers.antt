use Rattle.std.proofs.Common.{◌≡◌}
use Rattle.command_words.proofs.NumberLaws.{is_text}
use Rattle.command_words.proofs.arguments.number_of.Goals as goal

pub returns-in-Err-clause-only : goal.returns-in-Err-clause-only
returns-in-Err-clause-only c number small is = absurd (c.in-Err.ensures.cases.0 (is_text c.args.word.now number small is))
