use Rattle.std.proofs.Common.{sym, ◌∙◌, arith}
use Rattle.ll_reader.proofs.FileLineLaws.{none_passed, pass, stop, smaller, passed_all}
use Rattle.ll_reader.proofs.lines.lines_before.Goals as goal

pub loop-len-init : goal.loop-len-init
loop-len-init c = none_passed c.args.kind c.args.bytes.now

pub returns-then-is_of : goal.returns-then-is_of
returns-then-is_of c =
    stop c.args.kind c.args.bytes.now c.loop-len.lines c.loop-len.len c.loop-len.invariant c.split_at.result.1.now c.split_at-in-loop-len.result.0.now c.line_len-first.result
    c.split_at.ensures.back c.line_len-first.ensures.len c.split_at-in-loop-len.ensures.front c.loop-len-test.true (sym c.is_of.ensures ∙ c.if-is_of.true)

pub overflow_add-lines : goal.overflow_add-lines
overflow_add-lines c = let few = c.loop-len.invariant.ends.few in let within = c.loop-len.invariant.ends.within in let short = c.requires in omega arith

pub loop-len-smaller : goal.loop-len-smaller
loop-len-smaller c =
    smaller c.args.kind c.args.bytes.now c.loop-len.lines c.loop-len.len c.loop-len.invariant c.split_at.result.1.now c.split_at-in-loop-len.result.0.now c.line_len-first.result
    c.split_at.ensures.back c.line_len-first.ensures.len c.split_at-in-loop-len.ensures.front c.loop-len-test.true

pub loop-len-preserved : goal.loop-len-preserved
loop-len-preserved c =
    pass c.args.kind c.args.bytes.now c.loop-len.lines c.loop-len.len c.loop-len.invariant c.split_at.result.1.now c.split_at-in-loop-len.result.0.now c.line_len-first.result
    c.split_at.ensures.back c.line_len-first.ensures.len c.split_at-in-loop-len.ensures.front c.loop-len-test.true (sym c.is_of.ensures ∙ c.if-is_of.false)

pub returns : goal.returns
returns c = passed_all c.args.kind c.args.bytes.now c.loop-len.lines c.loop-len.len c.loop-len.invariant c.loop-len-test.false
