use Rattle.std.proofs.Common.{arith}
use Rattle.ll_token.proofs.ScanLaws.{ends_here, lexeme_bound, flaw_bound, token_here, fault_here}
use Rattle.ll_token.proofs.scan.next_token.Goals as goal

pub returns-then-is_empty : goal.returns-then-is_empty
returns-then-is_empty c = λ first_line e.
    ends_here c.args.text.now c.split_at.result.1.now c.split_at-2.result.1.now c.args.at c.blanks_at-blanks.result.len c.split_at.ensures.back c.blanks_at-blanks.ensures.len c.split_at-2.ensures.back c.if-is_empty.ensures

pub overflow_add-result : goal.overflow_add-result
overflow_add-result c =
    omega (arith, c.requires.short, lexeme_bound c.args.text.now c.split_at.result.1.now c.split_at-2.result.1.now c.args.at c.blanks_at-blanks.result.len c.split_at.ensures.back c.blanks_at-blanks.ensures.len c.split_at-2.ensures.back c.requires.within c.if-is_empty.ensures c.in-Ok.lexeme c.in-Ok.ensures)

pub overflow_cast-result-in-Ok : goal.overflow_cast-result-in-Ok
overflow_cast-result-in-Ok c =
    omega (arith, c.requires.short, lexeme_bound c.args.text.now c.split_at.result.1.now c.split_at-2.result.1.now c.args.at c.blanks_at-blanks.result.len c.split_at.ensures.back c.blanks_at-blanks.ensures.len c.split_at-2.ensures.back c.requires.within c.if-is_empty.ensures c.in-Ok.lexeme c.in-Ok.ensures)

pub overflow_add-result-in-Err : goal.overflow_add-result-in-Err
overflow_add-result-in-Err c =
    omega (arith, c.requires.short, flaw_bound c.args.text.now c.split_at.result.1.now c.split_at-2.result.1.now c.args.at c.blanks_at-blanks.result.len c.split_at.ensures.back c.blanks_at-blanks.ensures.len c.split_at-2.ensures.back c.requires.within c.if-is_empty.ensures c.in-Err.flaw c.in-Err.ensures)

pub overflow_cast-result-in-Err : goal.overflow_cast-result-in-Err
overflow_cast-result-in-Err c =
    omega (arith, c.requires.short, flaw_bound c.args.text.now c.split_at.result.1.now c.split_at-2.result.1.now c.args.at c.blanks_at-blanks.result.len c.split_at.ensures.back c.blanks_at-blanks.ensures.len c.split_at-2.ensures.back c.requires.within c.if-is_empty.ensures c.in-Err.flaw c.in-Err.ensures)

pub returns-in-Ok : goal.returns-in-Ok
returns-in-Ok c = λ first_line e.
    token_here c.args.text.now c.split_at.result.1.now c.split_at-2.result.1.now c.args.at c.blanks_at-blanks.result.len c.split_at.ensures.back c.blanks_at-blanks.ensures.len c.split_at-2.ensures.back c.requires.within c.if-is_empty.ensures first_line c.in-Ok.lexeme c.args.line c.blanks_at-blanks.result.lines c.in-Ok.ensures c.blanks_at-blanks.ensures.lines e

pub returns-in-Err : goal.returns-in-Err
returns-in-Err c = λ first_line e.
    fault_here c.args.text.now c.split_at.result.1.now c.split_at-2.result.1.now c.args.at c.blanks_at-blanks.result.len c.split_at.ensures.back c.blanks_at-blanks.ensures.len c.split_at-2.ensures.back c.requires.within c.if-is_empty.ensures first_line c.in-Err.flaw c.args.line c.blanks_at-blanks.result.lines c.in-Err.ensures c.blanks_at-blanks.ensures.lines e
