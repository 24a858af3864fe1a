use Rattle.std.proofs.Common.{◌≡◌, drop}
use Rattle.ll_grammar.specs.Tokens.{names_debug}
use Rattle.ll_grammar.proofs.debug.names_debug.Given as goal

-- no token so far is a global name
abbrev pub invariant-loop-token : goal.invariant-loop-token
invariant-loop-token l = names_debug l.text (drop l.token-index l.line) ≡ names_debug l.text l.line
