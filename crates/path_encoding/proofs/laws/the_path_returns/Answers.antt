use Rattle.path_encoding.proofs.ReturnLaws.{returns_on}
use Rattle.path_encoding.proofs.laws.the_path_returns.Goals as goal

pub returns : goal.returns
returns c it spots point sound are marks holds path is args vals given agree = returns_on it sound spots are point marks holds args vals given path is agree
