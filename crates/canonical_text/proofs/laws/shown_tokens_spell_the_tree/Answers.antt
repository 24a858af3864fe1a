use Rattle.canonical_text.proofs.HeaderLaws.{function_again}
use Rattle.canonical_text.proofs.laws.shown_tokens_spell_the_tree.Goals as goal

pub returns : goal.returns
returns c = function_again
