use Rattle.std.proofs.Common.{◌≡◌, zero, suc, ◌+◌, ◌-◌, arith, rules}
use Rattle.ll_grammar.specs.Header.{to_body_within}
use Rattle.ll_grammar.proofs.header.to_body.Goals as goal

pub returns-then-is_mark : goal.returns-then-is_mark
unfolding to_body_within
returns-then-is_mark c =
    let left : c.len-most.result - c.loop.counter ≡ suc (c.len-most.result - (c.loop.counter + 1)) = omega arith in
    rw (← c.loop.invariant) (rw left (search rules))

pub returns-then-is_mark-2 : goal.returns-then-is_mark-2
unfolding to_body_within
returns-then-is_mark-2 c =
    let left : c.len-most.result - c.loop.counter ≡ suc (c.len-most.result - (c.loop.counter + 1)) = omega arith in
    rw (← c.loop.invariant) (rw left (search rules))

pub loop-preserved : goal.loop-preserved
unfolding to_body_within
loop-preserved c =
    let left : c.len-most.result - c.loop.counter ≡ suc (c.len-most.result - (c.loop.counter + 1)) = omega arith in
    rw (← c.loop.invariant) (rw left (search rules))

pub returns : goal.returns
unfolding to_body_within
returns c =
    let left : c.len-most.result - c.loop.counter ≡ zero = omega arith in
    rw (← c.loop.invariant) (rw left (search rules))
