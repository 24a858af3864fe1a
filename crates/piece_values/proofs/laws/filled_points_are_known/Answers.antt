use Rattle.piece_values.proofs.FilledLaws.{known, agrees}
use Rattle.piece_values.proofs.laws.filled_points_are_known.Goals as goal

pub returns-clause-known : goal.returns-clause-known
returns-clause-known c it spots point sound are path ready placed from to stand all within hold = known it sound spots are point path ready placed from to stand all within hold

pub returns-clause-given : goal.returns-clause-given
returns-clause-given c it spots point sound are path ready placed from to stand all within hold = agrees it sound spots are point path ready placed from to stand all within hold
