use Rattle.canonical_text.proofs.ReadBackLaws.{spelled_back}
use Rattle.canonical_text.proofs.laws.canonical_text_spells_its_tree.Goals as goal

pub returns : goal.returns
returns c = spelled_back
