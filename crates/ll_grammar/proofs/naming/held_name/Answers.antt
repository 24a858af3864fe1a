use Rattle.std.proofs.Common.{sym, ◌∙◌, drop}
use Rattle.ll_token.specs.Scan.{text_of}
use Rattle.ll_grammar.proofs.NameLaws.{holds_held}
use Rattle.ll_grammar.proofs.naming.held_name.Goals as goal

pub returns-then-has_name : goal.returns-then-has_name
returns-then-has_name c =
    holds_held c.args.token.now.kind (text_of c.args.text.now c.args.token.now) (drop c.args.token.now.end c.args.text.now) c.name_of.result (sym c.has_name.ensures ∙ c.if-has_name.true) c.name_of.ensures.name
