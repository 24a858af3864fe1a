use Rattle.std.proofs.Common.{◌≡◌, ◌-◌, [], length}
use Rattle.ll_grammar.specs.Forms.{entries}
use Rattle.ll_grammar.proofs.instruction.entries.Given as goal

-- what is left to read goes on with the entries so far
abbrev pub invariant-loop : goal.invariant-loop
invariant-loop l = entries l.width (l.most - l.counter) l.entries l.cursor ≡ entries l.width (length l.initial.cursor) [] l.initial.cursor
