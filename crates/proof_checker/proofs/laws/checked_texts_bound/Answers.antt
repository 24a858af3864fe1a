use Rattle.proof_checker.specs.Verdict.{lines}
use Rattle.proof_checker.proofs.ProofLaws.{bounds_points}
use Rattle.proof_checker.proofs.laws.checked_texts_bound.Goals as goal

pub returns : goal.returns
returns c = λ system cost text found point answered fits. bounds_points system cost found point (lines text) answered fits
