use Rattle.canonical_text.proofs.NamedLaws.{function_named}
use Rattle.canonical_text.proofs.laws.names_have_a_byte.Goals as goal

pub returns : goal.returns
returns c = function_named
