use Rattle.canonical_text.proofs.ReadBackLaws.{whole_tokens, open_tokens}
use Rattle.canonical_text.proofs.laws.canonical_text_has_its_tokens.Goals as goal

pub returns-clause-whole : goal.returns-clause-whole
returns-clause-whole c = whole_tokens

pub returns-clause-unclosed : goal.returns-clause-unclosed
returns-clause-unclosed c = open_tokens
