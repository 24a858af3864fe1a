use Rattle.std.proofs.Common.{sym, ◌∙◌}
use Rattle.proof_spelling.proofs.SaidLaws.{read_once}
use Rattle.proof_spelling.proofs.parsing.goes_on.Goals as goal

pub after_line-requires : goal.after_line-requires
after_line-requires c = read_once c.args.bytes.now c.in-Fits.line (sym c.in_ok-line.ensures ∙ c.in-Fits.is)
