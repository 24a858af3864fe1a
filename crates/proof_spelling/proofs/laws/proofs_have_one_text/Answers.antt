use Rattle.proof_spelling.proofs.SpellLaws.{one_text}
use Rattle.proof_spelling.proofs.laws.proofs_have_one_text.Goals as goal

pub returns : goal.returns
returns c = one_text
