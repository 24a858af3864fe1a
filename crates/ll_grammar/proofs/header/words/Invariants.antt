use Rattle.std.proofs.Common.{◌≡◌, ◌-◌}
use Rattle.ll_grammar.specs.Header.{rows, words, words_within}
use Rattle.ll_grammar.proofs.header.words.Given as goal

-- what is left to read goes on with what was found so far
abbrev pub invariant-loop : goal.invariant-loop
invariant-loop l = words_within (l.most - l.counter) (rows l.table) l.found l.cursor ≡ words (rows l.table) l.noundef l.initial.cursor
