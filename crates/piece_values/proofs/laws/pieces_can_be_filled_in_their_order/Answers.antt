use Rattle.piece_values.proofs.ReadyListLaws.{all_ready}
use Rattle.piece_values.proofs.laws.pieces_can_be_filled_in_their_order.Goals as goal

pub returns : goal.returns
returns c it spots placed path sound are all = all_ready it sound spots are path placed all
