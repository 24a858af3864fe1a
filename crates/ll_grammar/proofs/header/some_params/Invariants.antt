use Rattle.std.proofs.Common.{◌≡◌, ◌-◌, ◌≤◌, [], length}
use Rattle.ll_grammar.specs.Header.{params_within}
use Rattle.ll_grammar.proofs.header.some_params.Given as goal

-- what is left to read goes on with the parameters so far
abbrev pub invariant-loop : goal.invariant-loop
invariant-loop l = record {
  reads : params_within (l.most - l.counter) l.params l.unnamed l.cursor ≡ params_within (length l.initial.cursor) [] 0 l.initial.cursor;
  few : l.unnamed ≤ l.counter;
}
