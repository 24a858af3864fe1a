use Rattle.ir_pieces.proofs.PieceLaws.{bounded, numbers_fit}
use Rattle.ir_pieces.proofs.laws.a_piece_is_small.Goals as goal

pub returns-clause-bounded : goal.returns-clause-bounded
returns-clause-bounded c = bounded

pub returns-clause-numbers : goal.returns-clause-numbers
returns-clause-numbers c = numbers_fit
