use Rattle.level_steps.proofs.RaiseLaws as laws
use Rattle.level_steps.proofs.laws.steps_stay_valid.Goals as goal

pub returns : goal.returns
returns c = λ level steps goal valid plain may. laws.steps_stay_valid level goal may steps valid plain
