use Rattle.std.proofs.Common.{◌≡◌, refl}
use Rattle.std.proofs.lemmas.Bool.{MatchBool-at_true}
use Rattle.proof_text.specs.Reading.{gathered}
use Rattle.proof_text.proofs.ReadingLaws.{multiples_start, multiples_step}
use Rattle.proof_text.proofs.line.multiples_of.Goals as goal

pub loop-by-init : goal.loop-by-init
loop-by-init c = multiples_start c.args.rest.now _ c.new-parts.ensures

pub loop-by-preserved : goal.loop-by-preserved
loop-by-preserved c =
    let put = MatchBool-at_true _ _ c.if-not-branch.false c.in_ok-put.ensures in
    multiples_step _ (gathered c.loop-by.parts.fits c.loop-by.parts.items) _ c.loop-by.left.now c.in-Some.behind.now c.in-Some-next_word.next.now c.in-Some.by.now c.in-Some-next_word.lit.now
    c.in-Some.ensures.0 c.in-Some-next_word.ensures.0 c.loop-by.invariant (rw c.multiple_of.ensures at put)
