use Rattle.std.proofs.Common.{arith}
use Rattle.proof_spelling.proofs.LineLaws.{one_line, next_lines}
use Rattle.proof_spelling.proofs.parsing.first_line.Goals as goal

pub returns-in-empty : goal.returns-in-empty
returns-in-empty c = one_line c.args.bytes.now _ c.line_len.result c.line_len.ensures.len c.split_at.ensures.back (omega arith)

pub returns-in-len1-up : goal.returns-in-len1-up
returns-in-len1-up c = next_lines c.args.bytes.now _ _ c.line_len.result c.line_len.ensures.len c.split_at.ensures.front c.split_at.ensures.back (omega arith)
