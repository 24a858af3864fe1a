use Rattle.level_steps.proofs.PointLaws.{ended_have_none}
use Rattle.level_steps.proofs.laws.ended_levels_have_no_point.Goals as goal

pub returns : goal.returns
returns c = λ level steps point valid ended meets. ended_have_none level point meets steps valid ended
