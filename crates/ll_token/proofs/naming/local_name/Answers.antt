use Rattle.std.proofs.Common.{ℕ, List, Some, ap}
use Rattle.ll_token.proofs.TokenNameLaws.{body_is_name, is_named, only_name, not_read, not_whole}
use Rattle.ll_token.proofs.naming.local_name.Goals as goal

pub returns-in_default-clause-only : goal.returns-in_default-clause-only
returns-in_default-clause-only c = λ name is.
    not_read c.args.text.now c.without_first-body.result.now c.without_first-body.ensures c.if-not-begins_with.ensures c.in_default.field-0 name c.in_default.ensures is

pub returns-then-lexeme-text-clause-only : goal.returns-then-lexeme-text-clause-only
returns-then-lexeme-text-clause-only c = λ name is.
    not_whole c.args.text.now c.without_first-body.result.now c.without_first-body.ensures c.if-not-begins_with.ensures c.in-Ok.lexeme name c.in-Ok.ensures c.if-lexeme-text.true is

pub written_name-requires : goal.written_name-requires
written_name-requires c =
    body_is_name c.args.text.now c.without_first-body.result.now c.without_first-body.ensures c.if-not-begins_with.ensures c.in-Ok.lexeme c.in-Ok.ensures c.if-lexeme-text.false

pub returns-clause-found : goal.returns-clause-found
returns-clause-found c =
    is_named c.args.text.now c.without_first-body.result.now c.without_first-body.ensures c.if-not-begins_with.ensures c.in-Ok.lexeme c.in_ok-written_name.field-0 c.in-Ok.ensures c.if-lexeme-text.false c.in_ok-written_name.ensures

pub returns-clause-only : goal.returns-clause-only
returns-clause-only c = λ name is.
    ap (λ (n : List ℕ). Some n) (only_name c.args.text.now c.without_first-body.result.now c.without_first-body.ensures c.if-not-begins_with.ensures c.in_ok-written_name.field-0 name c.in_ok-written_name.ensures is)
