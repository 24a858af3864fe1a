use Rattle.ll_grammar.proofs.SentenceLaws.{one_tree}
use Rattle.ll_grammar.proofs.function.read_function.Goals as goal

pub returns-clause-one : goal.returns-clause-one
returns-clause-one c = one_tree _
