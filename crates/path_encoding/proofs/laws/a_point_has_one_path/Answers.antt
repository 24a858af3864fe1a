use Rattle.path_encoding.proofs.TakenLaws.{one_path}
use Rattle.path_encoding.proofs.laws.a_point_has_one_path.Goals as goal

pub returns : goal.returns
returns c it spots point sound are marks holds = one_path it sound spots are point marks holds
