use Rattle.mix_system.proofs.BoundLaws.{true_from_IsIn, range_bounds-true}
use Rattle.mix_system.proofs.laws.what_a_box_says_is_true.Goals as goal

pub returns-clause-in_box : goal.returns-clause-in_box
returns-clause-in_box c = true_from_IsIn

pub returns-clause-ranges : goal.returns-clause-ranges
returns-clause-ranges c = range_bounds-true
