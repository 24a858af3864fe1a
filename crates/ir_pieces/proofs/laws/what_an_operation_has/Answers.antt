use Rattle.ir_pieces.proofs.ChoiceLaws.{takes, means}
use Rattle.ir_pieces.proofs.StandLaws.{stands}
use Rattle.ir_pieces.proofs.laws.what_an_operation_has.Goals as goal

pub returns-clause-stands : goal.returns-clause-stands
returns-clause-stands c = stands

pub returns-clause-takes : goal.returns-clause-takes
returns-clause-takes c = λ what operands point. takes point what operands

pub returns-clause-means : goal.returns-clause-means
returns-clause-means c = λ what operands point. means point what operands
