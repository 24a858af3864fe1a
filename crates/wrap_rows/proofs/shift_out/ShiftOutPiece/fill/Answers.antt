use Rattle.wrap_rows.proofs.ShiftOutLaws.{complete}
use Rattle.wrap_rows.proofs.shift_out.ShiftOutPiece.fill.Goals as goal

pub returns-clause-in_ranges : goal.returns-clause-in_ranges
returns-clause-in_ranges c = (complete c.args.self.now c.args.first c.args.point.now c.requires.known).0

pub returns-clause-complete : goal.returns-clause-complete
returns-clause-complete c = (complete c.args.self.now c.args.first c.args.point.now c.requires.known).1
