use Rattle.std.proofs.Common.{rules, ◌∙◌, length}
use Rattle.wrap_rows.proofs.MarkLaws.{closing-known, closing-inner}
use Rattle.wrap_rows.proofs.marks.add_marks.Goals as goal

pub add_lits-requires-clause-known : goal.add_lits-requires-clause-known
add_lits-requires-clause-known c =
    closing-known (length c.args.into.now.ranges) (length c.args.into.now.rows) (length c.add_listed_marks.new.into.ranges) (length c.add_listed_marks.new.into.rows)
    c.args.mark c.args.operands.now c.args.listed.now c.as_slice.result.now
    (search rules) (search rules) (c.as_slice.ensures ∙ c.in_ok-clause.ensures) c.requires.mark c.requires.operands c.requires.known

pub add_lits-requires-clause-inner : goal.add_lits-requires-clause-inner
add_lits-requires-clause-inner c =
    closing-inner c.args.mark c.args.operands.now c.args.listed.now c.as_slice.result.now (c.as_slice.ensures ∙ c.in_ok-clause.ensures) c.requires.inner
