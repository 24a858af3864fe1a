use Rattle.ir_runs.proofs.OperandLaws.{walk_has}
use Rattle.ir_runs.proofs.law.no_operand_is_missing.Goals as goal

pub returns : goal.returns
returns c = walk_has
