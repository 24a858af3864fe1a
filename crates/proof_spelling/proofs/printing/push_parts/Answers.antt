use Rattle.proof_spelling.proofs.PrintLaws.{parts_more}
use Rattle.proof_spelling.proofs.printing.push_parts.Goals as goal

pub loop-part-preserved : goal.loop-part-preserved
loop-part-preserved c =
    parts_more c.args.parts.now c.loop-part.part-index c.part-item.result c.args.text.now.items c.loop-part.text.items c.push_part.new.text.items c.loop-part-test.true c.part-item.is c.loop-part.invariant
    c.in_ok-push_part.ensures.text c.in_ok-push_part.ensures.fits
