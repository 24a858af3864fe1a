use Rattle.proof_spelling.proofs.SpellLaws.{one_proof}
use Rattle.proof_spelling.proofs.laws.texts_spell_one_proof.Goals as goal

pub returns : goal.returns
returns c = one_proof
