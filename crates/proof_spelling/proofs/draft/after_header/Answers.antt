use Rattle.std.proofs.Common.{Some, sym, subst}
use Rattle.proof_text.specs.declared.line.Line.{Line}
use Rattle.proof_spelling.specs.declared.draft.Draft.TheVariants as draft
use Rattle.proof_spelling.specs.Draft.{Comes}
use Rattle.proof_spelling.proofs.DraftLaws.{no_header}
use Rattle.proof_spelling.proofs.draft.after_header.Goals as goal

pub returns : goal.returns
returns c = subst (λ (l : Line). Comes draft.Header l (Some c.after_version.result)) (sym c.in-Header.is) c.after_version.ensures

pub returns-in_default : goal.returns-in_default
returns-in_default c = no_header c.args.line c.in_default.not-Header
