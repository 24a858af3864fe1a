use Rattle.std.proofs.Common.{◌≡◌, ◌-◌}
use Rattle.ll_grammar.specs.Header.{to_body, to_body_within}
use Rattle.ll_grammar.proofs.header.to_body.Given as goal

-- the brace is looked for in what is left
abbrev pub invariant-loop : goal.invariant-loop
invariant-loop l = to_body_within (l.most - l.counter) l.cursor ≡ to_body l.initial.cursor
