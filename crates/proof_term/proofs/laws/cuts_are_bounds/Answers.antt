use Rattle.proof_term.proofs.ValidLaws.{entered_meets, start_sound}
use Rattle.proof_term.specs.Valid.{at_start}
use Rattle.proof_term.proofs.laws.cuts_are_bounds.Goals as goal

pub returns : goal.returns
returns c = λ system cost proof point term bound valid fits entered.
    entered_meets system cost point proof.steps (at_start system proof.goal) entered.0 term bound fits (start_sound system cost point proof.goal) valid.steps entered.1 entered.2
