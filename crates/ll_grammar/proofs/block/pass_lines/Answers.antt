use Rattle.std.proofs.Common.{◌≡◌, zero, suc, ◌+◌, ◌-◌, arith, rules}
use Rattle.ll_grammar.specs.Blocks.{passed_within}
use Rattle.ll_grammar.proofs.block.pass_lines.Goals as goal

pub returns-then-not-branch : goal.returns-then-not-branch
unfolding passed_within
returns-then-not-branch c =
    let left : c.len-most.result - c.loop.counter ≡ suc (c.len-most.result - (c.loop.counter + 1)) = omega arith in
    rw (← c.loop.invariant) (rw left (search rules))

pub loop-preserved : goal.loop-preserved
unfolding passed_within
loop-preserved c =
    let left : c.len-most.result - c.loop.counter ≡ suc (c.len-most.result - (c.loop.counter + 1)) = omega arith in
    rw (← c.loop.invariant) (rw left (search rules))

pub returns : goal.returns
unfolding passed_within
returns c =
    let left : c.len-most.result - c.loop.counter ≡ zero = omega arith in
    rw (← c.loop.invariant) (rw left (search rules))
