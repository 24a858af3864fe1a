use Rattle.ir_pieces.proofs.CountLaws.{rows_few, clauses_few}
use Rattle.ir_pieces.proofs.laws.what_pieces_lay_is_little.Goals as goal

pub returns-clause-rows : goal.returns-clause-rows
returns-clause-rows c = rows_few

pub returns-clause-clauses : goal.returns-clause-clauses
returns-clause-clauses c = clauses_few
