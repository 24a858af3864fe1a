use Rattle.std.proofs.Common.{◌≡◌, ◌+◌, ◌<◌, length, get_or, refl, sym, ◌∙◌, ap, subst, arith}
use Rattle.std.proofs.lemmas.List.{get_or_default}
use Rattle.mix_system.specs.System.{System, Exists}
use Rattle.bounded_simplex.specs.InForce.{BoundChanges}
use Rattle.trail_bounds.proofs.BoundsLaws.{blank, changes_count, bounds_put}
use Rattle.trail_bounds.proofs.bounds.TrailBounds.put_rest.Goals as goal

pub assert_bound-requires-clause-spare : goal.assert_bound-requires-clause-spare
assert_bound-requires-clause-spare c =
    let it = c.loop-at.self in
    let are = c.loop-at.invariant.bounds in
    let count = changes_count c.args.self.now.system.now c.args.trail.now it are in
    omega (arith, count, are.base, are.few, c.loop-at.invariant.place, c.loop-at.invariant.room, c.requires.room, c.loop-at-test.true)

pub assert_bound-requires-clause-exists : goal.assert_bound-requires-clause-exists
assert_bound-requires-clause-exists c =
    let are = c.loop-at.invariant.bounds in
    let lit = get_or c.args.trail.now c.loop-at.at blank in
    subst (λ (s : System). Exists (length s.ranges) (length s.rows) lit.term) (sym are.over) (c.requires.terms c.loop-at.at blank c.loop-at-test.true)

pub overflow_add-self : goal.overflow_add-self
overflow_add-self c = omega (arith, c.loop-at.invariant.place, c.requires.few, c.loop-at-test.true)

pub loop-at-preserved : goal.loop-at-preserved
loop-at-preserved c =
    let it = c.loop-at.self in
    let inv = c.loop-at.invariant in
    let trail = c.args.trail.now in
    let at = c.loop-at.at in
    let lit = get_or trail at blank in
    let made = c.assert_bound.ensures.changes in
    let inside : it.ground + it.put < length trail = omega (arith, inv.place, c.loop-at-test.true) in
    let is : get_or trail (it.ground + it.put) lit ≡ lit = ap (λ n. get_or trail n lit) inv.place ∙ get_or_default trail at lit blank c.loop-at-test.true in
    record {
      system = inv.system;
      depth = inv.depth;
      ground = inv.ground;
      room = ap (λ (b : BoundChanges). b.room) made ∙ inv.room;
      place = omega (arith, inv.place);
      bounds = bounds_put c.args.self.now.system.now trail it inv.bounds _ lit inside is (ap (λ (b : BoundChanges). b.system) made) refl refl refl refl refl (ap (λ (b : BoundChanges). b.changes) made);
    }

pub returns-clause-bounds : goal.returns-clause-bounds
returns-clause-bounds c = c.loop-at.invariant.bounds

pub returns-clause-system : goal.returns-clause-system
returns-clause-system c = c.loop-at.invariant.system

pub returns-clause-ground : goal.returns-clause-ground
returns-clause-ground c = c.loop-at.invariant.ground

pub returns-clause-all : goal.returns-clause-all
returns-clause-all c = omega (arith, c.loop-at.invariant.place, c.loop-at.invariant.bounds.within, c.loop-at-test.false)
