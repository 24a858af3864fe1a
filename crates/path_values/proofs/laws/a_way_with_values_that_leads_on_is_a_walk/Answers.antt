use Rattle.path_values.proofs.WalkLaws.{walk_on}
use Rattle.path_values.proofs.laws.a_way_with_values_that_leads_on_is_a_walk.Goals as goal

pub returns : goal.returns
returns c func args blocks vals rules fits way values leads = walk_on func rules args blocks vals fits way values leads
