use Rattle.ir_constants.proofs.AddLaws.{with_next}
use Rattle.ir_constants.proofs.ConstantLaws.{has_var}
use Rattle.ir_constants.proofs.laws.counted_constants_have_their_variables.Goals as goal

pub returns : goal.returns
returns c = has_var
