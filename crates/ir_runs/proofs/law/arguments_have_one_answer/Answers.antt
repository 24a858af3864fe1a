use Rattle.ir_runs.proofs.AnswerLaws.{one_answer}
use Rattle.ir_runs.proofs.law.arguments_have_one_answer.Goals as goal

pub returns : goal.returns
returns c = one_answer
