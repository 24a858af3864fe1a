use Rattle.std.proofs.Common.{refl, inl, inr}
use Rattle.proof_text.specs.declared.line.Line.TheVariants.{Header}
use Rattle.proof_checker.specs.Place.{AtHeader}
use Rattle.proof_checker.specs.Outcome.{HeaderGives}
use Rattle.proof_checker.proofs.ComesLaws.{of_kind, no_header}
use Rattle.proof_checker.proofs.first_lines.at_header.Goals as goal

pub returns : goal.returns
returns c =
    of_kind c.args.base.now AtHeader c.args.line (Header c.in-Header.version) (HeaderGives (Header c.in-Header.version)) c.in-Header.is (λ o gives. inr (refl, gives)) c.after_header.result
    (c.after_header.ensures c.args.base.now)

pub returns-in_default : goal.returns-in_default
returns-in_default c = inl (no_header c.args.line c.in_default.not-Header, refl)
