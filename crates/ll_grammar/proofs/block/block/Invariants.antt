use Rattle.std.proofs.Common.{◌≡◌, ◌-◌}
use Rattle.ll_grammar.specs.Blocks.{block, block_within}
use Rattle.ll_grammar.proofs.block.block.Given as goal

-- what is left to read goes on with the statements so far
abbrev pub invariant-loop : goal.invariant-loop
invariant-loop l = block_within (l.most - l.counter) l.label l.phis l.body l.cursor ≡ block l.fn.label l.initial.cursor
