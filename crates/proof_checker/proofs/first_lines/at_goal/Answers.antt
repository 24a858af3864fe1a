use Rattle.std.proofs.Common.{refl, inl, inr}
use Rattle.proof_text.specs.declared.line.Line.TheVariants.{Goal}
use Rattle.proof_checker.specs.Place.{AtGoal}
use Rattle.proof_checker.specs.Outcome.{GoalGives}
use Rattle.proof_checker.proofs.ComesLaws.{ok_of_kind, no_goal}
use Rattle.proof_checker.proofs.first_lines.at_goal.Goals as goal

pub returns : goal.returns
returns c =
    let line = Goal c.in-Goal.most in
    ok_of_kind c.args.base.now AtGoal c.args.line line (GoalGives c.args.base.now.system.now line) c.in-Goal.is (λ o gives. inr (refl, gives)) c.after_goal.result c.after_goal.ensures

pub returns-in_default : goal.returns-in_default
returns-in_default c = inl (no_goal c.args.line c.in_default.not-Goal, refl)
