use Rattle.proof_checker.specs.Verdict.{lines}
use Rattle.proof_checker.proofs.ProofLaws.{has_proof}
use Rattle.proof_checker.proofs.laws.valid_texts_have_a_proof.Goals as goal

pub returns : goal.returns
returns c = λ system cost text found answered.
    let from = has_proof system cost found (lines text) answered in (
      from.proof,
      record { valid = from.valid; made_for = from.made_for; spells = from.are; goal_is = from.goal_is },
    )
