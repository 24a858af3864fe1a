use Rattle.ll_reader.proofs.AnswerLaws.{section_says}
use Rattle.ll_reader.proofs.reader.read_section.Goals as goal

pub returns-in-Ok-Ok : goal.returns-in-Ok-Ok
returns-in-Ok-Ok c = section_says c.args.text.now c.args.section c.in-Ok-Ok.tokens c.items.result.now (rw c.in-Ok-Ok.field-0-is at c.in-Ok-Ok.ensures.tokens) c.items.ensures c.read_tokens.result c.read_tokens.ensures
