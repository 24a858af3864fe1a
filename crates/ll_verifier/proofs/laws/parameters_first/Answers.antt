use Rattle.ll_verifier.proofs.ParamLaws.{param_number}
use Rattle.ll_verifier.proofs.laws.parameters_first.Goals as goal

pub returns : goal.returns
returns c = λ func place param rules within. param_number func rules.names place within param
