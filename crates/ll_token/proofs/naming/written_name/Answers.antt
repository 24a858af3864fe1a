use Rattle.ll_token.proofs.TokenNameLaws.{quoted_gives}
use Rattle.ll_token.proofs.naming.written_name.Goals as goal

pub returns-then-begins_with : goal.returns-then-begins_with
returns-then-begins_with c =
    quoted_gives c.args.body.now c.without_first.result.now c.without_last.result.now c.without_first.ensures c.without_last.ensures c.unescaped.result c.if-begins_with.ensures c.unescaped.ensures
