use Rattle.std.proofs.Common.{◌+◌, length, arith}
use Rattle.wrap_rows.proofs.RangedLaws.{on_ok}
use Rattle.wrap_rows.proofs.SumPieceLaws.{lays, clause_count, one_row, two_clauses, signed_row_stands, clauses_so_far}
use Rattle.wrap_rows.proofs.WrappedLaws.{marks_count}
use Rattle.wrap_rows.specs.Sum.{operands, literals}
use Rattle.wrap_rows.proofs.sum.SumPiece.lay.Goals as goal

pub add_signed-requires-clause-rows : goal.add_signed-requires-clause-rows
add_signed-requires-clause-rows c =
    omega (arith, c.requires.rows, one_row c.args.self.now c.args.first c.args.into.now c.add_carry.new.into c.add_carry.new.into c.in_ok-row.ensures.ok)

pub add_signed-requires-clause-clauses : goal.add_signed-requires-clause-clauses
add_signed-requires-clause-clauses c =
    omega (arith, c.requires.clauses, clause_count c.args.self.now c.args.first 3, two_clauses c.args.self.now c.args.first c.args.into.now c.add_carry.new.into c.add_carry.new.into c.in_ok-row.ensures.ok)

pub add_wrapped_marks-requires-clause-row : goal.add_wrapped_marks-requires-clause-row
add_wrapped_marks-requires-clause-row c =
    rw c.in_ok-row.ensures.number (signed_row_stands c.args.self.now c.args.first c.args.into.now c.add_carry.new.into c.add_signed.new.into c.in_ok-row.ensures.ok c.in_ok-add_signed.ensures)

pub add_wrapped_marks-requires-clause-room : goal.add_wrapped_marks-requires-clause-room
add_wrapped_marks-requires-clause-room c =
    let sum = c.args.self.now in
    let first = c.args.first in
    let row = length c.args.into.now.rows + 3 in
    rw c.in_ok-row.ensures.number
    (omega (
      arith,
      c.requires.clauses,
      clause_count sum first row,
      clauses_so_far sum first c.args.into.now c.add_carry.new.into c.add_signed.new.into c.in_ok-row.ensures.ok c.in_ok-add_signed.ensures,
      marks_count (first + 1) (operands sum) (literals sum.flags.nuw sum.flags.nsw sum first row),
    ))

pub returns-clause-ok : goal.returns-clause-ok
returns-clause-ok c =
    on_ok c.add_wrapped_marks.result
    (lays c.args.self.now c.args.first c.args.into.now c.add_carry.new.into c.add_signed.new.into c.add_wrapped_marks.new.into c.in_ok-row.ensures.ok c.in_ok-add_signed.ensures)
    (rw c.in_ok-row.ensures.number at c.add_wrapped_marks.ensures)
