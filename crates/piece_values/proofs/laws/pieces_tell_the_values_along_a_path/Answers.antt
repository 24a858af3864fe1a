use Rattle.point_runs.proofs.BlocksLaws.{path_low}
use Rattle.piece_values.proofs.AgreeLaws.{all_agree}
use Rattle.piece_values.proofs.OwnerLaws.{has_pieces}
use Rattle.piece_values.proofs.TellLaws.{has_values}
use Rattle.piece_values.proofs.laws.pieces_tell_the_values_along_a_path.Goals as goal

pub returns : goal.returns
returns c it spots point sound are marks known placed from to stand all within hold path args is agrees = record {
  has = has_values it sound spots are point marks known placed from to stand within hold (has_pieces it sound spots placed all) path is args agrees;
  agrees = all_agree it sound spots point known path (path_low it sound path is.is_path);
}
