use Rattle.std.proofs.Common.{refl}
use Rattle.ll_grammar.proofs.CursorLaws.{seen_passed}
use Rattle.ll_grammar.proofs.cursor.Cursor.pass_line.Goals as goal

pub returns-in-len1-up : goal.returns-in-len1-up
returns-in-len1-up c =
    rw (c.split_at.ensures.back, c.line_len.ensures.len, ← c.self.view_is)
    (seen_passed c.self.inside.text.now c.self.inside.line _ _ c.self.inside.tokens.now c.in-len1-up.len_at_least refl)
