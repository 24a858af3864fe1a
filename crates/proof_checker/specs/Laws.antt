-- What the verdict on a text says of the points of a system.
use Rattle.std.specs.Prelude.{◌≡◌, ℕ, ℤ, List}
use Rattle.mix_system.specs.declared.literal.Term.{Term}
use Rattle.mix_system.specs.System.{System}
use Rattle.mix_system.specs.Fits.{Fits}
use Rattle.proof_term.specs.declared.proof.Goal.{Goal}
use Rattle.proof_term.specs.declared.proof.Proof.{Proof}
use Rattle.proof_term.specs.Laws.{Meets}
use Rattle.proof_term.specs.Valid.{Valid}
use Rattle.proof_checker.specs.declared.verdict.Verdict.{Verdict}
use Rattle.proof_checker.specs.declared.verdict.Verdict.TheVariants.{Yes}
use Rattle.proof_checker.specs.Spelled.{Spells, IsMadeFor}
use Rattle.proof_checker.specs.Verdict.{IsVerdict}

-- The text spells a proof with that goal that is valid and was made for the system.
pub record IsProofOf (system : System) (cost : Term) (text : List ℕ) (goal : Goal) (proof : Proof) : Type 0 where
  pub valid : Valid system cost proof
  pub made_for : IsMadeFor system proof.shape
  pub spells : Spells text proof
  pub goal_is : proof.goal ≡ goal

-- a text is valid where it spells a valid proof
abbrev pub ValidProofsPass : Type 0
ValidProofsPass = (system : System) (cost : Term) (text : List ℕ) (goal : Goal) (proof : Proof) →
    IsProofOf system cost text goal proof → IsVerdict system cost text (Yes goal)

-- and only there
abbrev pub ValidTextsHaveAProof : Type 0
ValidTextsHaveAProof = (system : System) (cost : Term) (text : List ℕ) (goal : Goal) →
    IsVerdict system cost text (Yes goal) → (proof : Proof) × IsProofOf system cost text goal proof

-- every point that fits meets the goal of a valid text
abbrev pub CheckedTextsBound : Type 0
CheckedTextsBound = (system : System) (cost : Term) (text : List ℕ) (goal : Goal) (point : List ℤ) →
    IsVerdict system cost text (Yes goal) → Fits system point → Meets system.rows cost point goal

abbrev pub TextsHaveOneVerdict : Type 0
TextsHaveOneVerdict = (system : System) (cost : Term) (text : List ℕ) (first second : Verdict) →
    IsVerdict system cost text first → IsVerdict system cost text second → first ≡ second
