use Rattle.ll_verifier.proofs.AnswerLaws.{breaks_no_rules, one_fault}
use Rattle.ll_verifier.proofs.laws.one_answer.Goals as goal

pub returns-clause-refused : goal.returns-clause-refused
returns-clause-refused c = breaks_no_rules

pub returns-clause-one : goal.returns-clause-one
returns-clause-one c = one_fault
