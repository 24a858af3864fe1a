use Rattle.std.proofs.Common.{◌∷◌, ◌++◌, []}
use Rattle.mix_system.specs.System.{System}
use Rattle.mix_system.specs.declared.literal.Term.{Term}
use Rattle.proof_checker.specs.declared.verdict.Verdict.TheVariants.{No}
use Rattle.proof_checker.specs.Place.{AtHeader}
use Rattle.proof_checker.specs.Verdict.{AreAnswered}
use Rattle.proof_checker.proofs.FedLaws.{over, answered_failed, answered_at}
use Rattle.proof_checker.proofs.checker.Checker.end.Goals as goal

pub returns-in-Failed : goal.returns-in-Failed
returns-in-Failed c = λ system cost fed read.
    let base = c.args.self.base in
    let number = c.args.self.number in
    over base system cost (λ (s : System) (t : Term). AreAnswered s t AtHeader 1 (fed ++ c.args.rest.now ∷ []) (No number c.in-Failed.reason)) read.system_is read.cost_is
    (answered_failed base.system.now base.cost AtHeader 1 number fed c.args.rest.now c.in-Failed.reason (rw c.in-Failed.is at read.found))

pub returns-in-At : goal.returns-in-At
returns-in-At c = λ system cost fed read.
    let base = c.args.self.base in
    over base system cost (λ (s : System) (t : Term). AreAnswered s t AtHeader 1 (fed ++ c.args.rest.now ∷ []) c.ended.result) read.system_is read.cost_is
    (answered_at base fed c.in-At.kept c.args.self.number c.args.rest.now c.ended.result (rw c.in-At.is at read.found) (λ to is. c.ended.ensures base to is))
