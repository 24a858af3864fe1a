use Rattle.clause_search.proofs.QuietLaws.{quiet_propagated, quiet_decided, quiet_learnt}
use Rattle.clause_search.proofs.laws.lower_levels_stay_quiet.Goals as goal

pub returns-clause-propagated : goal.returns-clause-propagated
returns-clause-propagated c = quiet_propagated

pub returns-clause-decided : goal.returns-clause-decided
returns-clause-decided c = quiet_decided

pub returns-clause-learnt : goal.returns-clause-learnt
returns-clause-learnt c = quiet_learnt
