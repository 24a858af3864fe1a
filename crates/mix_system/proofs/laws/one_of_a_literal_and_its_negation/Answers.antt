use Rattle.mix_system.proofs.BoundLaws.{true_or_negation, not_both_true, atom-negation, negation-twice}
use Rattle.mix_system.proofs.laws.one_of_a_literal_and_its_negation.Goals as goal

pub returns-clause-one : goal.returns-clause-one
returns-clause-one c = true_or_negation

pub returns-clause-not_both : goal.returns-clause-not_both
returns-clause-not_both c = not_both_true

pub returns-clause-atom : goal.returns-clause-atom
returns-clause-atom c = atom-negation

pub returns-clause-back : goal.returns-clause-back
returns-clause-back c = negation-twice
