use Rattle.std.proofs.Common.{subst}
use Rattle.proof_checker.specs.Verdict.{lines, IsVerdict}
use Rattle.proof_term.specs.declared.proof.Goal.{Goal}
use Rattle.proof_checker.specs.declared.verdict.Verdict.TheVariants.{Yes}
use Rattle.proof_checker.proofs.SpelledLaws.{passes_all}
use Rattle.proof_checker.proofs.laws.valid_proofs_pass.Goals as goal

pub returns : goal.returns
returns c = λ system cost text goal proof is.
    subst (λ (g : Goal). IsVerdict system cost text (Yes g)) is.goal_is (passes_all system cost (lines text) proof is.valid.goal is.valid.steps is.made_for is.spells)
