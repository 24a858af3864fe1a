use Rattle.proof_spelling.proofs.ParseLaws.{one_fault}
use Rattle.proof_spelling.proofs.laws.texts_have_one_fault.Goals as goal

pub returns : goal.returns
returns c = one_fault
