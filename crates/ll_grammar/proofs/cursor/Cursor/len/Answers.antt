use Rattle.std.proofs.Common.{sym}
use Rattle.ll_grammar.proofs.CursorLaws.{length-seen}
use Rattle.ll_grammar.proofs.cursor.Cursor.len.Goals as goal

pub returns : goal.returns
returns c = rw (← c.self.view_is) (sym (length-seen _ _ _))
