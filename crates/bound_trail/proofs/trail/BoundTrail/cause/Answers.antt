use Rattle.std.proofs.Common.{◌∙◌, sym, arith}
use Rattle.std.proofs.lemmas.Bool.{false≢true}
use Rattle.bound_trail.proofs.TrailLaws.{cause_found, false_by_range, down_one, down_falls}
use Rattle.bound_trail.proofs.trail.BoundTrail.cause.Goals as goal

pub returns-in_default : goal.returns-in_default
returns-in_default c =
    false_by_range c.args.self.now c.args.lit.now c.loop-edge.at c.loop-edge.edge c.loop-edge.invariant c.requires.term (c.contradicts.ensures.0 c.loop-edge-test.true) (cc)

pub link-edge-requires : goal.link-edge-requires
link-edge-requires c =
    let down = c.loop-edge.invariant in
    let falls = down_falls c.args.self.now c.args.lit.now c.loop-edge.at c.loop-edge.edge c.in-Some.entry down c.in-Some.is in
    omega (arith, down.within)

pub loop-edge-smaller : goal.loop-edge-smaller
loop-edge-smaller c =
    down_falls c.args.self.now c.args.lit.now c.loop-edge.at c.loop-edge.edge c.in-Some.entry c.loop-edge.invariant c.in-Some.is

pub loop-edge-preserved : goal.loop-edge-preserved
loop-edge-preserved c =
    down_one c.args.self.now c.args.lit.now c.loop-edge.at c.loop-edge.edge c.in-Some.entry c.link-edge.result c.loop-edge.invariant c.requires.term (c.contradicts.ensures.0 c.loop-edge-test.true) c.in-Some.is c.link-edge.ensures.edge

pub returns : goal.returns
returns c =
    cause_found c.args.self.now c.args.lit.now c.loop-edge.at c.loop-edge.edge c.loop-edge.invariant c.requires.term (λ r. false≢true (sym c.loop-edge-test.false ∙ c.contradicts.ensures.1 r)) c.requires.is_false
