use Rattle.std.proofs.Common.{subst, arith}
use Rattle.memchr.specs.Find.{IsFirstByte, is_byte}
use Rattle.ll_reader.proofs.FileLineLaws.{len_with_end, len_without_end}
use Rattle.ll_reader.proofs.lines.line_len.Goals as goal

pub returns-in-Some-clause-len : goal.returns-in-Some-clause-len
returns-in-Some-clause-len c =
    let first = subst (λ r. IsFirstByte (is_byte 10) c.args.bytes.now r) c.in-Some.is c.memchr.ensures in
    len_with_end c.args.bytes.now c.in-Some.inside first.0.high first.1 first.0.before

pub returns-in-None-clause-len : goal.returns-in-None-clause-len
returns-in-None-clause-len c = len_without_end c.args.bytes.now (subst (λ r. IsFirstByte (is_byte 10) c.args.bytes.now r) c.in-None.is c.memchr.ensures)
