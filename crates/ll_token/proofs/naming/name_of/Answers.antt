use Rattle.ll_token.proofs.TokenNameLaws.{body_gives, only_gives}
use Rattle.ll_token.proofs.naming.name_of.Goals as goal

pub returns-clause-name : goal.returns-clause-name
returns-clause-name c =
    body_gives c.args.text.now c.args.token.now c.bytes.result.now c.body_of.result.now c.bytes.ensures c.written_name.result c.requires.named c.body_of.ensures c.requires.of_text c.written_name.ensures

pub returns-clause-only : goal.returns-clause-only
returns-clause-only c =
    only_gives c.args.text.now c.args.token.now c.bytes.result.now c.body_of.result.now c.bytes.ensures c.written_name.result c.body_of.ensures c.written_name.ensures
