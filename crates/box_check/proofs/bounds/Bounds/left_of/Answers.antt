use Rattle.std.proofs.Common.{refl}
use Rattle.std.proofs.lemmas.Bool.{false≢true}
use Rattle.box_check.proofs.HintsLaws.{found_false, found_two_some, found_none}
use Rattle.box_check.proofs.bounds.Bounds.left_of.Goals as goal

pub loop-lit-preserved-then-is_false : goal.loop-lit-preserved-then-is_false
loop-lit-preserved-then-is_false c =
    found_false c.args.self.now c.args.clause.now c.loop-lit.lit-index _ c.loop-lit-test.true c.loop-lit.found c.loop-lit.invariant (c.is_false.ensures.0 c.if-is_false.true)

pub returns-then-is_some : goal.returns-then-is_some
returns-then-is_some c =
    found_two_some c.args.self.now c.args.clause.now c.loop-lit.lit-index _ c.loop-lit-test.true c.loop-lit.found c.if-is_some.ensures c.loop-lit.invariant (λ f. false≢true (c.if-is_false.ensures.1 f))

pub returns-in-None : goal.returns-in-None
returns-in-None c = found_none c.args.self.now c.args.clause.now c.loop-lit.lit-index c.loop-lit.found c.in-None.is c.loop-lit-test.false c.loop-lit.invariant
