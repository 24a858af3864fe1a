use Rattle.level_steps.proofs.MoreLaws as laws
use Rattle.level_steps.proofs.laws.steps_go_on.Goals as goal

pub returns : goal.returns
returns c = laws.steps_go_on
