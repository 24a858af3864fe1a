use Rattle.bit_rows.proofs.BitwiseLaws.{complete}
use Rattle.bit_rows.proofs.bitwise.BitwisePiece.fill.Goals as goal

pub returns-clause-in_ranges : goal.returns-clause-in_ranges
returns-clause-in_ranges c = rw c.put.ensures (complete c.args.self.now c.args.first c.args.point.now c.requires.at c.requires.operands c.requires.known).0

pub returns-clause-complete : goal.returns-clause-complete
returns-clause-complete c = rw c.put.ensures (complete c.args.self.now c.args.first c.args.point.now c.requires.at c.requires.operands c.requires.known).1
