use Rattle.std.proofs.Common.{◌≡◌, zero, suc, ◌+◌, ◌-◌, arith, rules}
use Rattle.ll_grammar.specs.Forms.{entries}
use Rattle.ll_grammar.proofs.instruction.entries.Goals as goal

pub returns-in_err-entry : goal.returns-in_err-entry
unfolding entries
returns-in_err-entry c =
    let left : c.len-most.result - c.loop.counter ≡ suc (c.len-most.result - (c.loop.counter + 1)) = omega arith in
    rw (← c.loop.invariant) (rw left (search rules))

pub returns-in_err-another : goal.returns-in_err-another
unfolding entries
returns-in_err-another c =
    let left : c.len-most.result - c.loop.counter ≡ suc (c.len-most.result - (c.loop.counter + 1)) = omega arith in
    rw (← c.loop.invariant) (rw left (search rules))

pub returns-then-not-branch : goal.returns-then-not-branch
unfolding entries
returns-then-not-branch c =
    let left : c.len-most.result - c.loop.counter ≡ suc (c.len-most.result - (c.loop.counter + 1)) = omega arith in
    rw (← c.loop.invariant) (rw left (search rules))

pub loop-preserved : goal.loop-preserved
unfolding entries
loop-preserved c =
    let left : c.len-most.result - c.loop.counter ≡ suc (c.len-most.result - (c.loop.counter + 1)) = omega arith in
    rw (← c.loop.invariant) (rw left (search rules))

pub returns : goal.returns
unfolding entries
returns c =
    let left : c.len-most.result - c.loop.counter ≡ zero = omega arith in
    rw (← c.loop.invariant) (rw left (search rules))
