use Rattle.std.proofs.Common.{refl, inl, inr}
use Rattle.proof_text.specs.declared.line.Line.TheVariants.{Shape}
use Rattle.proof_checker.specs.Place.{AtShape}
use Rattle.proof_checker.specs.Outcome.{ShapeGives}
use Rattle.proof_checker.proofs.ComesLaws.{of_kind, no_shape}
use Rattle.proof_checker.proofs.first_lines.at_shape.Goals as goal

pub returns : goal.returns
returns c =
    let line = Shape c.in-Shape.vars c.in-Shape.clauses in
    of_kind c.args.base.now AtShape c.args.line line (ShapeGives c.args.base.now.system.now line) c.in-Shape.is (λ o gives. inr (refl, gives)) c.after_shape.result c.after_shape.ensures

pub returns-in_default : goal.returns-in_default
returns-in_default c = inl (no_shape c.args.line c.in_default.not-Shape, refl)
