use Rattle.std.proofs.Common.{◌≡◌, ℕ, ◌+◌, ◌-◌, ◌<◌, ◌≤◌, List, [], ◌∷◌, ◌++◌, length, length-append, get_or, take, refl, sym, ◌∙◌, ap, subst, arith, All}
use Rattle.std.specs.Prelude.{Contains}
use Rattle.std.proofs.lemmas.List.{get_or_default, get_or-take}
use Rattle.std.proofs.lemmas.List.Elements.{All-nil, All-push}
use Rattle.mix_system.specs.declared.literal.Lit.{Lit}
use Rattle.mix_system.specs.System.{System}
use Rattle.mix_system.specs.Bounds.{IsIn, range_bounds}
use Rattle.bounded_simplex.specs.InForce.{BoundChanges}
use Rattle.bounded_simplex.specs.Refutation.{box_of}
use Rattle.trail_bounds.proofs.BoundsLaws.{SaysFrom, blank, length_taken, says_start, says_one_more, box_grows, box_has, bounds_settled}
use Rattle.trail_bounds.proofs.bounds.TrailBounds.settle.Goals as goal

-- the literal at a place of level 0
ground_at : (trail : List Lit) (ground at : ℕ) → at < ground → ground ≤ length trail → get_or (take ground trail) at (get_or trail at blank) ≡ get_or trail at blank
ground_at trail ground at before within =
    let lit = get_or trail at blank in
    get_or-take ground trail at lit before ∙ get_or_default trail at lit blank (omega arith)

pub loop-at-init : goal.loop-at-init
loop-at-init c =
    let it = c.args.self.now in
    let trail = c.args.trail.now in
    let ground = c.args.ground in
    let new = c.back_to.new.self.bounds in
    let none : new.changes ≡ [] = ap (λ (b : BoundChanges). b.changes) c.back_to.ensures.changes in
    let over : new.system ≡ it.system.now = ap (λ (b : BoundChanges). b.system) c.back_to.ensures.changes ∙ c.requires.bounds.over in
    record {
      system = refl;
      depth = refl;
      over = refl;
      room = refl;
      few = omega (arith, ap length none);
      among = subst (All (Contains (take ground trail))) (sym none) (All-nil (Contains (take ground trail)));
      says = says_start (range_bounds it.system.now.ranges) (take ground trail) ground new (omega (arith, length_taken ground trail c.requires.ground)) (ap (λ (s : System). range_bounds s.ranges) over);
    }

pub loop-at-preserved-then-not-is_in_force : goal.loop-at-preserved-then-not-is_in_force
loop-at-preserved-then-not-is_in_force c =
    let it = c.args.self.now in
    let inv = c.loop-at.invariant in
    let trail = c.args.trail.now in
    let ground = c.args.ground in
    let front = take ground trail in
    let at = c.loop-at.at - 1 in
    let lit = get_or trail at blank in
    let old = c.loop-at.self.simplex.bounds in
    let new = c.assert_bound.new.self.bounds in
    let made = c.assert_bound.ensures.changes in
    let changes : new.changes ≡ old.changes ++ lit ∷ [] = ap (λ (b : BoundChanges). b.changes) made in
    let before : at < ground = omega (arith, inv.few, c.loop-at-test.true) in
    let inside : at < length front = omega (arith, before, length_taken ground trail c.requires.ground) in
    let is = ground_at trail ground at before c.requires.ground in
    let next : c.loop-at.at ≡ at + 1 = omega (arith, c.loop-at-test.true) in
    record {
      system = inv.system;
      depth = inv.depth;
      over = ap (λ (b : BoundChanges). b.system) made ∙ inv.over;
      room = ap (λ (b : BoundChanges). b.room) made ∙ inv.room;
      few = omega (arith, ap length changes, length-append old.changes (lit ∷ []), inv.few, c.loop-at-test.true);
      among = subst (All (Contains front)) (sym changes) (All-push (Contains front) old.changes lit inv.among (at, inside, is));
      says = says_one_more (range_bounds it.system.now.ranges) front (box_of old) (box_of new) at lit inside is (box_grows old new lit made) (box_has old new lit made)
          (subst (λ n. SaysFrom (range_bounds it.system.now.ranges) front n (box_of old)) next inv.says);
    }

pub loop-at-preserved : goal.loop-at-preserved
loop-at-preserved c =
    let it = c.args.self.now in
    let inv = c.loop-at.invariant in
    let trail = c.args.trail.now in
    let ground = c.args.ground in
    let front = take ground trail in
    let at = c.loop-at.at - 1 in
    let lit = get_or trail at blank in
    let old = c.loop-at.self.simplex.bounds in
    let before : at < ground = omega (arith, inv.few, c.loop-at-test.true) in
    let inside : at < length front = omega (arith, before, length_taken ground trail c.requires.ground) in
    let is = ground_at trail ground at before c.requires.ground in
    let next : c.loop-at.at ≡ at + 1 = omega (arith, c.loop-at-test.true) in
    record {
      system = inv.system;
      depth = inv.depth;
      over = inv.over;
      room = inv.room;
      few = omega (arith, inv.few);
      among = inv.among;
      says = says_one_more (range_bounds it.system.now.ranges) front (box_of old) (box_of old) at lit inside is (λ l within. within) (c.is_in_force.ensures c.if-not-is_in_force.false)
          (subst (λ n. SaysFrom (range_bounds it.system.now.ranges) front n (box_of old)) next inv.says);
    }

pub returns-clause-bounds : goal.returns-clause-bounds
returns-clause-bounds c =
    let it = c.args.self.now in
    let inv = c.loop-at.invariant in
    let trail = c.args.trail.now in
    let ground = c.args.ground in
    let front = take ground trail in
    let bounds = c.loop-at.self.simplex.bounds in
    let end : c.loop-at.at ≡ 0 = omega (arith, c.loop-at-test.false) in
    let over : bounds.system ≡ it.system.now = inv.over ∙ ap (λ (b : BoundChanges). b.system) c.back_to.ensures.changes ∙ c.requires.bounds.over in
    let says : SaysFrom (range_bounds it.system.now.ranges) front 0 (box_of bounds) = subst (λ n. SaysFrom (range_bounds it.system.now.ranges) front n (box_of bounds)) end inv.says in
    bounds_settled it.system.now trail _ ground over (ap (λ s. s.now) inv.system) (omega (arith, c.requires.bounds.depth, inv.depth)) refl c.mark.ensures refl c.requires.ground (omega (arith, inv.few)) inv.among
    (λ lit within. subst (λ (s : System). IsIn (range_bounds s.ranges ++ bounds.changes) lit) over (says lit within))
