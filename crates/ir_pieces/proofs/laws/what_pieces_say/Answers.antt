use Rattle.ir_pieces.proofs.ListLaws.{all-said, all-true_of}
use Rattle.ir_pieces.proofs.FillLaws.{all-sound}
use Rattle.ir_pieces.proofs.laws.what_pieces_say.Goals as goal

pub returns-clause-laid : goal.returns-clause-laid
returns-clause-laid c =
    λ placed first rows point stands. (all-said rows point placed first stands, all-true_of rows point placed first stands)

pub returns-clause-sound : goal.returns-clause-sound
returns-clause-sound c = all-sound
