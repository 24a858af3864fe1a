use Rattle.std.proofs.Common.{◌≡◌, ◌-◌, ◌∷◌, [], length}
use Rattle.ll_grammar.specs.Blocks.{blocks_within}
use Rattle.ll_grammar.proofs.block.blocks_behind.Given as goal

-- what is left to read goes on with the blocks so far
abbrev pub invariant-loop : goal.invariant-loop
invariant-loop l = blocks_within (l.most - l.counter) l.blocks l.cursor ≡ blocks_within (length l.initial.cursor) (l.fn.entry ∷ []) l.initial.cursor
