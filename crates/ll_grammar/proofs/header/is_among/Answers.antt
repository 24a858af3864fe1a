use Rattle.std.proofs.Common.{◌∙◌}
use Rattle.ll_grammar.proofs.TableLaws.{found_among}
use Rattle.ll_grammar.proofs.header.is_among.Goals as goal

pub returns : goal.returns
returns g c = c.is_some.ensures ∙ found_among _ _ c.find.result c.find.ensures.first c.find.ensures.absent
