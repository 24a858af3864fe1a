use Rattle.std.proofs.Common.{◌∙◌, arith}
use Rattle.cost_table.proofs.NameLaws.{split_more, split_front, split_back}
use Rattle.cost_table.proofs.name_end.split_name.Goals as goal
use Rattle.cost_table.proofs.name_end.split_name.Goals.{then-end-line-via-then-end-line, then-end-line-via-else-end-line+then-line-end-ne32}

pub returns-then-end-line-clause-only : goal.returns-then-end-line-clause-only
returns-then-end-line-clause-only c written rest name form local =
    let more = split_more c.args.line.now written rest name form local in
    elim c.then-end-line.branch [
      | then-end-line-via-then-end-line w ↦ omega (arith, more.0, c.name_len-end.ensures, w.if-end-line.true)
      | then-end-line-via-else-end-line+then-line-end-ne32 w ↦ w.if-line-end-ne32.true (rw c.name_len-end.ensures more.1)
    ]

pub returns-clause-only : goal.returns-clause-only
returns-clause-only c written rest name form local =
    (c.split_at.ensures.front ∙ rw c.name_len-end.ensures (split_front c.args.line.now written rest name form local), c.split_at-2.ensures.back ∙ rw (c.split_at.ensures.back, c.name_len-end.ensures) (split_back c.args.line.now written rest name form local))
