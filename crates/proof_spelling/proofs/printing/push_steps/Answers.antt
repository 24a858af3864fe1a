use Rattle.proof_spelling.proofs.PrintLaws.{steps_more}
use Rattle.proof_spelling.proofs.printing.push_steps.Goals as goal

pub loop-step-preserved : goal.loop-step-preserved
loop-step-preserved c =
    steps_more c.args.steps.now c.loop-step.step-index c.step-item.result c.args.text.now.items c.loop-step.text.items c.push_step.new.text.items c.loop-step-test.true c.step-item.is c.loop-step.invariant
    c.in_ok-push_step.ensures.text c.in_ok-push_step.ensures.fits
