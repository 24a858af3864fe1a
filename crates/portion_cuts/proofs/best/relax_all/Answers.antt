use Rattle.std.proofs.Common.{◌≡◌, ◌<◌, ◌-◌, ℕ, length, drop, subst, ap, ◌∙◌, arith}
use Rattle.std.proofs.Math.ListN.{length-set}
use Rattle.portion_cuts.specs.Paths.{costs_at}
use Rattle.portion_cuts.specs.Best.{AreBest}
use Rattle.portion_cuts.proofs.BestLaws.{can_relax, back_once, none_yet, longest_is}
use Rattle.portion_cuts.proofs.best.relax_all.Goals as goal

pub loop-left-init : goal.loop-left-init
loop-left-init c = record {
  left = omega arith;
  size = c.requires.size;
  best = none_yet (costs_at c.args.sound.now c.args.costs.now) c.args.portion c.args.sound.now.flow.edges c.edges-edges.result.now c.edges-edges.ensures.edges c.args.best.now c.requires.staying;
  bounded = c.requires.bounded;
}

pub relax-requires-clause-edge : goal.relax-requires-clause-edge
relax-requires-clause-edge c =
    (can_relax c.args.sound.now c.edges-edges.ensures.sound c.edges-edges.result.now c.edges-edges.ensures.edges (c.loop-left.left - 1) (omega (arith, c.loop-left.invariant.left, c.loop-left-test.true))).there

pub relax-requires-clause-forward : goal.relax-requires-clause-forward
relax-requires-clause-forward c =
    (can_relax c.args.sound.now c.edges-edges.ensures.sound c.edges-edges.result.now c.edges-edges.ensures.edges (c.loop-left.left - 1) (omega (arith, c.loop-left.invariant.left, c.loop-left-test.true))).forward

pub relax-requires-clause-within : goal.relax-requires-clause-within
relax-requires-clause-within c =
    (can_relax c.args.sound.now c.edges-edges.ensures.sound c.edges-edges.result.now c.edges-edges.ensures.edges (c.loop-left.left - 1) (omega (arith, c.loop-left.invariant.left, c.loop-left-test.true))).within

pub loop-left-preserved : goal.loop-left-preserved
loop-left-preserved c =
    let it = c.args.sound.now in
    let list = c.edges-edges.result.now in
    let low : c.loop-left.left - 1 < length list = omega (arith, c.loop-left.invariant.left, c.loop-left-test.true) in
    let ready = can_relax it c.edges-edges.ensures.sound list c.edges-edges.ensures.edges (c.loop-left.left - 1) low in
    let size : length c.relax.new.best ≡ length c.loop-left.best = ap length c.relax.ensures.best ∙ simp length-set in
    record {
      left = omega (arith, low);
      size = omega (arith, size, c.loop-left.invariant.size);
      best = back_once (costs_at it c.args.costs.now) c.args.portion it.flow.edges list c.edges-edges.ensures.edges c.loop-left.left c.loop-left.best c.relax.new.best c.loop-left-test.true low ready.forward (omega (arith, ready.within, c.loop-left.invariant.size)) c.loop-left.invariant.best c.relax.ensures.best;
      bounded = c.relax.ensures.bounded;
    }

pub returns : goal.returns
returns c =
    let it = c.args.sound.now in
    let sound = c.edges-edges.ensures.sound in
    let none : c.loop-left.left ≡ 0 = omega (arith, c.loop-left-test.false) in
    longest_is it sound c.args.costs.now c.args.portion c.loop-left.best (omega (arith, c.loop-left.invariant.size, sound.flow.flow.size, sound.flow.entry))
    (subst (λ (n : ℕ). AreBest (costs_at it c.args.costs.now) c.args.portion (drop n it.flow.edges) c.loop-left.best) none c.loop-left.invariant.best)
