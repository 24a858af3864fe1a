use Rattle.std.proofs.Common.{refl, sym, ◌∙◌, ap}
use Rattle.proof_text.specs.declared.line.LineRead.TheVariants.{Malformed, Unfit, Fits}
use Rattle.proof_checker.specs.Place.{Place}
use Rattle.proof_checker.specs.Outcome.{Fails}
use Rattle.proof_checker.specs.declared.kept.Found.TheVariants as found
use Rattle.proof_checker.specs.declared.verdict.Reason.TheVariants as reason
use Rattle.proof_checker.specs.Kept.{IsKept, Comes, LineOf}
use Rattle.proof_checker.specs.Outcome.{Gives}
use Rattle.proof_checker.proofs.ComesLaws.{if_ok_as, said_by}
use Rattle.proof_checker.proofs.OnceLaws.{read_once}
use Rattle.proof_checker.proofs.line.after_line.Goals as goal

pub placed-requires : goal.placed-requires
placed-requires c = record {
  sound = c.requires.sound;
  kept = c.requires.kept;
  once = read_once c.args.line.now c.in-Fits.line (sym c.in-Fits.is ∙ c.in_ok-said.ensures);
  clear = c.requires.clear;
}

pub returns-in-Malformed-clause-gives : goal.returns-in-Malformed-clause-gives
returns-in-Malformed-clause-gives c = λ at is. said_by c.args.base.now at c.args.line.now Malformed (found.Failed reason.BadText) (sym c.in-Malformed.is ∙ c.in_ok-said.ensures) refl

pub returns-in-Unfit-clause-gives : goal.returns-in-Unfit-clause-gives
returns-in-Unfit-clause-gives c = λ at is.
    said_by c.args.base.now at c.args.line.now (Unfit c.in-Unfit.kind) (found.Failed c.unfit.result) (sym c.in-Unfit.is ∙ c.in_ok-said.ensures) (ap Fails (c.unfit.ensures c.args.base.now at is))

pub returns-in-Fits-clause-gives : goal.returns-in-Fits-clause-gives
returns-in-Fits-clause-gives c =
    let base = c.args.base.now in
    if_ok_as (λ f. (at : Place) → IsKept base c.args.kept at → Comes base (LineOf base at c.in-Fits.line) f)
    (λ f. (at : Place) → IsKept base c.args.kept at → Comes base (Gives base.system.now base.cost at c.args.line.now) f)
    (λ f comes at is. said_by base at c.args.line.now (Fits c.in-Fits.line) f (sym c.in-Fits.is ∙ c.in_ok-said.ensures) (comes at is)) c.placed.result c.placed.ensures.gives
