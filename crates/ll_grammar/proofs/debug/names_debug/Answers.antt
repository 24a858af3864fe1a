use Rattle.std.proofs.Common.{sym, ap, ◌∙◌}
use Rattle.std.specs.Prelude.{codes}
use Rattle.ll_grammar.specs.Tokens.{has_prefix}
use Rattle.ll_grammar.proofs.CursorLaws.{names_debug-next, names_debug-here, names_debug-end}
use Rattle.ll_grammar.proofs.debug.names_debug.Goals as goal

pub returns-then-is_kind : goal.returns-then-is_kind
returns-then-is_kind c =
    c.has_prefix.ensures ∙ ap (has_prefix (codes "llvm.dbg.")) (c.bytes.ensures ∙ c.in_ok-name.ensures)
    ∙ sym (names_debug-here c.args.text.now c.args.line.now c.loop-token.token-index _ c.loop-token-test.true (sym c.is_kind.ensures ∙ c.if-is_kind.true))
    ∙ c.loop-token.invariant

pub loop-token-preserved : goal.loop-token-preserved
loop-token-preserved c =
    sym (names_debug-next c.args.text.now c.args.line.now c.loop-token.token-index _ c.loop-token-test.true (sym c.is_kind.ensures ∙ c.if-is_kind.false))
    ∙ c.loop-token.invariant

pub returns : goal.returns
returns c = sym (sym c.loop-token.invariant ∙ names_debug-end c.args.text.now c.args.line.now c.loop-token.token-index c.loop-token-test.false)
