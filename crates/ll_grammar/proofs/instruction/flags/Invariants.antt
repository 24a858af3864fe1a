use Rattle.std.proofs.Common.{◌≡◌, ◌-◌}
use Rattle.ll_grammar.specs.Forms.{flags, flags_within}
use Rattle.ll_grammar.proofs.instruction.flags.Given as goal

-- what is left to read goes on with the flags so far
abbrev pub invariant-loop : goal.invariant-loop
invariant-loop l = flags_within (l.most - l.counter) l.allowed l.flags l.cursor ≡ flags l.allowed l.initial.cursor
