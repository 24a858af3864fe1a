use Rattle.level_steps.proofs.WholeLaws.{ended_are_valid}
use Rattle.level_steps.proofs.laws.ended_levels_are_proofs.Goals as goal

pub returns : goal.returns
returns c = λ system cost proof outer valid ended. record { goal = outer; steps = ended_are_valid system cost proof.goal proof.steps valid ended }
