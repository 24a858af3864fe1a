use Rattle.std.proofs.Common.{◌≡◌, ◌<◌, drop}
use Rattle.ll_grammar.specs.Words.{value_below}
use Rattle.ll_grammar.proofs.words.value_below.Given as goal

-- what is left goes on with the value so far
abbrev pub invariant-loop-digit : goal.invariant-loop-digit
invariant-loop-digit l = record {
  value : value_below l.limit l.value (drop l.digit-index l.digits) ≡ value_below l.limit 0 l.digits;
  below : l.value < l.limit;
}
