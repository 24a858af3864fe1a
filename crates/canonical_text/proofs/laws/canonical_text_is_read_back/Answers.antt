use Rattle.canonical_text.proofs.ReadBackLaws.{read_back}
use Rattle.canonical_text.proofs.laws.canonical_text_is_read_back.Goals as goal

pub returns : goal.returns
returns c = read_back
