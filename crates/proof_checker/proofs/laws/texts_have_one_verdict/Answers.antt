use Rattle.proof_checker.specs.Verdict.{lines}
use Rattle.proof_checker.proofs.OneVerdictLaws.{one_answer}
use Rattle.proof_checker.specs.Place.{AtHeader}
use Rattle.proof_checker.proofs.laws.texts_have_one_verdict.Goals as goal

pub returns : goal.returns
returns c = λ system cost text first second p q. one_answer system cost AtHeader 1 (lines text) first second p q
