use Rattle.std.proofs.Common.{◌≡◌, zero, suc, ◌+◌, ◌-◌, arith, rules}
use Rattle.ll_grammar.specs.Header.{params_within}
use Rattle.ll_grammar.proofs.header.some_params.Goals as goal

pub returns-in_err-param : goal.returns-in_err-param
unfolding params_within
returns-in_err-param c =
    let left : c.len-most.result - c.loop.counter ≡ suc (c.len-most.result - (c.loop.counter + 1)) = omega arith in
    rw (← c.loop.invariant.reads) (rw left (search rules))

pub returns-then-not-more : goal.returns-then-not-more
unfolding params_within
returns-then-not-more c =
    let left : c.len-most.result - c.loop.counter ≡ suc (c.len-most.result - (c.loop.counter + 1)) = omega arith in
    rw (← c.loop.invariant.reads) (rw left (search rules))

pub loop-preserved : goal.loop-preserved
unfolding params_within
loop-preserved c =
    let left : c.len-most.result - c.loop.counter ≡ suc (c.len-most.result - (c.loop.counter + 1)) = omega arith in
    record {
      reads = rw (← c.loop.invariant.reads) (rw left (search rules));
      few = omega arith;
    }

pub returns : goal.returns
unfolding params_within
returns c =
    let left : c.len-most.result - c.loop.counter ≡ zero = omega arith in
    rw (← c.loop.invariant.reads) (rw left (search rules))
