use Rattle.std.proofs.Common.{◌∷◌, ◌++◌, [], sym, ◌∙◌}
use Rattle.mix_system.specs.System.{System}
use Rattle.mix_system.specs.declared.literal.Term.{Term}
use Rattle.proof_checker.specs.declared.kept.Found.TheVariants.{At, Failed}
use Rattle.proof_checker.specs.Place.{AtHeader}
use Rattle.proof_checker.specs.Fed.{FailsFirst}
use Rattle.proof_checker.proofs.FedLaws.{over, found_as, found_stays, reads_as, says_as}
use Rattle.proof_checker.proofs.checker.Checker.line.Goals as goal

pub take-requires : goal.take-requires
take-requires c =
    let r = c.requires in
    (r.0, r.1, r.2, found_as r.0 r.1 r.2 c.args.self.now (At c.in-At.kept) (sym c.replace-found.ensures.value ∙ c.in-At.is) r.3)

pub returns-in-Failed-clause-read : goal.returns-in-Failed-clause-read
returns-in-Failed-clause-read c = λ system cost fed read.
    let checker = c.args.self.now in
    let was = found_as system cost fed checker (Failed c.in-Failed.reason) (sym c.replace-found.ensures.value ∙ c.in-Failed.is) read in
    record {
      system_is = read.system_is;
      cost_is = read.cost_is;
      sound = read.sound;
      clear = read.clear;
      found = found_stays checker.base fed checker.number c.args.line.now c.in-Failed.reason was.found;
    }

pub returns-in-Failed-clause-answer : goal.returns-in-Failed-clause-answer
returns-in-Failed-clause-answer c = λ system cost fed read.
    let checker = c.args.self.now in
    let was = found_as system cost fed checker (Failed c.in-Failed.reason) (sym c.replace-found.ensures.value ∙ c.in-Failed.is) read in
    let fails = found_stays checker.base fed checker.number c.args.line.now c.in-Failed.reason was.found in
    (checker.number, over checker.base system cost (λ (s : System) (t : Term). FailsFirst s t AtHeader 1 (fed ++ c.args.line.now ∷ []) checker.number c.in-Failed.reason) read.system_is read.cost_is fails)

pub returns-in-At-clause-read : goal.returns-in-At-clause-read
returns-in-At-clause-read c =
    reads_as c.args.self.now c.take.new.self (At c.in-At.kept) c.args.line.now (sym c.replace-found.ensures.value ∙ c.in-At.is) c.take.result c.take.ensures.read

pub returns-in-At-clause-answer : goal.returns-in-At-clause-answer
returns-in-At-clause-answer c =
    says_as c.args.self.now (At c.in-At.kept) c.args.line.now (sym c.replace-found.ensures.value ∙ c.in-At.is) c.take.result c.take.ensures.answer
