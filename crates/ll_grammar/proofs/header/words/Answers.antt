use Rattle.std.proofs.Common.{◌≡◌, zero, suc, ◌+◌, ◌-◌, arith, rules}
use Rattle.ll_grammar.specs.Header.{words_within}
use Rattle.ll_grammar.proofs.header.words.Goals as goal

pub returns-then-not-is_word_of : goal.returns-then-not-is_word_of
unfolding words_within
returns-then-not-is_word_of c =
    let left : c.len-most.result - c.loop.counter ≡ suc (c.len-most.result - (c.loop.counter + 1)) = omega arith in
    rw (← c.loop.invariant) (rw left (search rules))

pub loop-preserved : goal.loop-preserved
unfolding words_within
loop-preserved c =
    let left : c.len-most.result - c.loop.counter ≡ suc (c.len-most.result - (c.loop.counter + 1)) = omega arith in
    rw (← c.loop.invariant) (rw left (search rules))

pub returns : goal.returns
unfolding words_within
returns c =
    let left : c.len-most.result - c.loop.counter ≡ zero = omega arith in
    rw (← c.loop.invariant) (rw left (search rules))
