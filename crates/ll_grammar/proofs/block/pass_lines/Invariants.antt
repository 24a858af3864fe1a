use Rattle.std.proofs.Common.{◌≡◌, ◌-◌}
use Rattle.ll_grammar.specs.Blocks.{passed, passed_within}
use Rattle.ll_grammar.proofs.block.pass_lines.Given as goal

-- what is left goes on as all of it does
abbrev pub invariant-loop : goal.invariant-loop
invariant-loop l = passed_within (l.most - l.counter) l.cursor ≡ passed l.initial.cursor
