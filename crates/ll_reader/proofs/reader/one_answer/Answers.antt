use Rattle.ll_reader.proofs.AnswerLaws.{one_tree, one_stop, not_both_answers}
use Rattle.ll_reader.proofs.FormedLaws.{spelled_formed}
use Rattle.ll_reader.proofs.reader.one_answer.Goals as goal

pub returns-clause-tree : goal.returns-clause-tree
returns-clause-tree c = one_tree

pub returns-clause-fault : goal.returns-clause-fault
returns-clause-fault c = one_stop

pub returns-clause-not_both : goal.returns-clause-not_both
returns-clause-not_both c = not_both_answers

pub returns-clause-formed : goal.returns-clause-formed
returns-clause-formed c = spelled_formed
