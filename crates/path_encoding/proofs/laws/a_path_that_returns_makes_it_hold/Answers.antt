use Rattle.path_encoding.proofs.HoldLaws.{path_holds}
use Rattle.path_encoding.proofs.laws.a_path_that_returns_makes_it_hold.Goals as goal

pub returns : goal.returns
returns c it spots point sound are marks said path is args vals given agree returns_on = path_holds it sound spots are point marks path is said args vals given agree returns_on
