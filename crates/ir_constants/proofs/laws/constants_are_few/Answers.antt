use Rattle.ir_constants.proofs.CountLaws.{few}
use Rattle.ir_constants.proofs.laws.constants_are_few.Goals as goal

pub returns : goal.returns
returns c = few
