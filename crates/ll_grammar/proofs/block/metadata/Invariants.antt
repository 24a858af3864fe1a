use Rattle.std.proofs.Common.{◌≡◌, ◌-◌}
use Rattle.ll_grammar.specs.Blocks.{metadata, metadata_within}
use Rattle.ll_grammar.proofs.block.metadata.Given as goal

-- what is left goes on as all of it does
abbrev pub invariant-loop : goal.invariant-loop
invariant-loop l = metadata_within (l.most - l.counter) l.cursor ≡ metadata l.initial.cursor
