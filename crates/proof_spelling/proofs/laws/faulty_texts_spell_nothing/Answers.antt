use Rattle.proof_spelling.proofs.ParseLaws.{faulty}
use Rattle.proof_spelling.proofs.laws.faulty_texts_spell_nothing.Goals as goal

pub returns : goal.returns
returns c = faulty
