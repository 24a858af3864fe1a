use Rattle.std.proofs.Common.{◌+◌, length, arith}
use Rattle.wrap_rows.proofs.RangedLaws.{on_ok}
use Rattle.wrap_rows.proofs.ScaledLaws.{own_rows, lays, clause_count, one_row, two_clauses, signed_row_stands, clauses_so_far}
use Rattle.wrap_rows.proofs.scaled.ScaledPiece.lay.Goals as goal

pub returns-in_err-add_carry-clause-own_rows : goal.returns-in_err-add_carry-clause-own_rows
returns-in_err-add_carry-clause-own_rows c = own_rows c.args.self.now c.args.first

pub returns-in_err-add_signed-clause-own_rows : goal.returns-in_err-add_signed-clause-own_rows
returns-in_err-add_signed-clause-own_rows c = own_rows c.args.self.now c.args.first

pub returns-clause-own_rows : goal.returns-clause-own_rows
returns-clause-own_rows c = own_rows c.args.self.now c.args.first

pub add_signed-requires-clause-rows : goal.add_signed-requires-clause-rows
add_signed-requires-clause-rows c =
    omega (arith, c.requires.rows, one_row c.args.self.now c.args.first c.args.into.now c.add_carry.new.into c.add_carry.new.into c.in_ok-add_carry.ensures)

pub add_signed-requires-clause-clauses : goal.add_signed-requires-clause-clauses
add_signed-requires-clause-clauses c =
    omega (arith, c.requires.clauses, clause_count c.args.self.now c.args.first 2, two_clauses c.args.self.now c.args.first c.args.into.now c.add_carry.new.into c.add_carry.new.into c.in_ok-add_carry.ensures)

pub add_wrapped_marks-requires-clause-row : goal.add_wrapped_marks-requires-clause-row
add_wrapped_marks-requires-clause-row c =
    rw c.rows.ensures.count (signed_row_stands c.args.self.now c.args.first c.args.into.now c.add_carry.new.into c.add_signed.new.into c.in_ok-add_carry.ensures c.in_ok-add_signed.ensures)

pub add_wrapped_marks-requires-clause-room : goal.add_wrapped_marks-requires-clause-room
add_wrapped_marks-requires-clause-room c =
    rw (c.rows.ensures.count, c.operands.ensures)
    (omega (
      arith,
      c.requires.clauses,
      clause_count c.args.self.now c.args.first (length c.args.into.now.rows + 2),
      clauses_so_far c.args.self.now c.args.first c.args.into.now c.add_carry.new.into c.add_signed.new.into c.in_ok-add_carry.ensures c.in_ok-add_signed.ensures,
    ))

pub returns-clause-ok : goal.returns-clause-ok
returns-clause-ok c =
    on_ok c.add_wrapped_marks.result
    (lays c.args.self.now c.args.first c.args.into.now c.add_carry.new.into c.add_signed.new.into c.add_wrapped_marks.new.into c.in_ok-add_carry.ensures c.in_ok-add_signed.ensures)
    (rw (c.rows.ensures.count, c.operands.ensures) at c.add_wrapped_marks.ensures)
