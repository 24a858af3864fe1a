use Rattle.proof_term.proofs.ValidLaws.{open_levels_meet, start_sound}
use Rattle.proof_term.specs.Valid.{at_start}
use Rattle.proof_term.proofs.laws.valid_proofs_bound.Goals as goal

pub returns : goal.returns
returns c = λ system cost proof point valid fits.
    (open_levels_meet system cost point proof.steps (at_start system proof.goal) fits (start_sound system cost point proof.goal) valid.steps).0
