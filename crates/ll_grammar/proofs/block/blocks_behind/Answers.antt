use Rattle.std.proofs.Common.{◌≡◌, zero, suc, ◌+◌, ◌-◌, arith, rules}
use Rattle.ll_grammar.specs.Blocks.{blocks_within}
use Rattle.ll_grammar.proofs.block.blocks_behind.Goals as goal

pub returns-then-is_empty : goal.returns-then-is_empty
unfolding blocks_within
returns-then-is_empty c =
    let left : c.len-most.result - c.loop.counter ≡ suc (c.len-most.result - (c.loop.counter + 1)) = omega arith in
    rw (← c.loop.invariant) (rw left (search rules))

pub returns-in_err-labelled_block : goal.returns-in_err-labelled_block
unfolding blocks_within
returns-in_err-labelled_block c =
    let left : c.len-most.result - c.loop.counter ≡ suc (c.len-most.result - (c.loop.counter + 1)) = omega arith in
    rw (← c.loop.invariant) (rw left (search rules))

pub loop-preserved : goal.loop-preserved
unfolding blocks_within
loop-preserved c =
    let left : c.len-most.result - c.loop.counter ≡ suc (c.len-most.result - (c.loop.counter + 1)) = omega arith in
    rw (← c.loop.invariant) (rw left (search rules))

pub returns : goal.returns
unfolding blocks_within
returns c =
    let left : c.len-most.result - c.loop.counter ≡ zero = omega arith in
    rw (← c.loop.invariant) (rw left (search rules))
