use Rattle.bounded_simplex.proofs.CoefficientLaws.{cancels_out}
use Rattle.bounded_simplex.proofs.laws.equations_cancel_out.Goals as goal

pub returns : goal.returns
returns c = cancels_out
