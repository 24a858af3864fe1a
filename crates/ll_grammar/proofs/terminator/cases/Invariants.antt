use Rattle.std.proofs.Common.{◌≡◌, ◌-◌, [], length}
use Rattle.ll_grammar.specs.Forms.{cases}
use Rattle.ll_grammar.proofs.terminator.cases.Given as goal

-- what is left to read goes on with the cases so far
abbrev pub invariant-loop : goal.invariant-loop
invariant-loop l = cases (l.most - l.counter) l.cases l.cursor ≡ cases (length l.initial.cursor) [] l.initial.cursor
