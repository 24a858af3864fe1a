use Rattle.ir_runs.proofs.OnceLaws.{ends_once}
use Rattle.ir_runs.proofs.law.each_list_ends_once.Goals as goal

pub returns : goal.returns
returns c = ends_once
