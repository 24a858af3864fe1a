use Rattle.std.proofs.Common.{◌≡◌, ◌+◌, ◌-◌, take, refl, ◌∙◌, ap, arith}
use Rattle.bounded_simplex.specs.InForce.{BoundChanges}
use Rattle.trail_bounds.proofs.BoundsLaws.{bounds_kept, bounds_back}
use Rattle.trail_bounds.proofs.bounds.TrailBounds.give_back.Goals as goal

pub returns-then-kept-self-clause-bounds : goal.returns-then-kept-self-clause-bounds
returns-then-kept-self-clause-bounds c = λ lits are short.
    let it = c.args.self.now in
    bounds_kept it.system.now lits it are c.args.count (c.args.count - it.ground) short (omega (arith, c.requires.ground)) (omega (arith, c.if-kept-self.true))

pub returns-clause-bounds : goal.returns-clause-bounds
returns-clause-bounds c = λ lits are short.
    let it = c.args.self.now in
    let kept = c.args.count - it.ground in
    let left : c.mark.result.changes - (it.put - kept) ≡ it.base + kept = omega (arith, c.mark.ensures, c.requires.counted, c.if-kept-self.false) in
    bounds_back it.system.now lits it are _ c.args.count kept short (omega (arith, c.requires.ground)) (omega (arith, c.if-kept-self.false))
    (ap (λ (b : BoundChanges). b.system) c.back_to.ensures.changes) refl refl refl refl refl
    (ap (λ (b : BoundChanges). b.changes) c.back_to.ensures.changes ∙ ap (λ n. take n it.simplex.bounds.changes) left)
