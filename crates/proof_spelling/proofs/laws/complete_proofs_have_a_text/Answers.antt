use Rattle.proof_spelling.proofs.SpellLaws.{has_text}
use Rattle.proof_spelling.proofs.laws.complete_proofs_have_a_text.Goals as goal

pub returns : goal.returns
returns c = has_text
