use Rattle.std.proofs.Common.{◌≡◌, ◌<◌, [], ◌∷◌, ◌++◌, All, FitsSigned, ap, subst, sym, ◌∙◌, length, rules, arith}
use Rattle.std.specs.Int.{w128}
use Rattle.std.proofs.lemmas.Int.{to_z-of_z}
use Rattle.std.proofs.lemmas.List.{length-set, length_push, length-map}
use Rattle.std.proofs.lemmas.List.Elements.{All-push}
use Rattle.mix_system.specs.System.{Exists}
use Rattle.bounded_simplex.specs.BoundPlaces.{place_of}
use Rattle.bounded_simplex.specs.StoredBounds.{AreReplaced, lits_of}
use Rattle.bounded_simplex.specs.declared.bounds.Change.{Change}
use Rattle.bounded_simplex.proofs.BoundListLaws.{stored_put, replaced_push}
use Rattle.bounded_simplex.proofs.bounds.Bounds.put.Goals as goal

pub invariant_of-self : goal.invariant_of-self
invariant_of-self c =
    let b = c.self.inside in
    let s = b.system.now in
    let change : Change = record { lit = c.args.lit; before = c.index-before.result.now } in
    let old = b.changes.items in
    let new = c.push_reserved.new.self.items in
    let bound_fits : FitsSigned w128 c.args.lit.bound = search rules in
    let is : new ≡ old ++ change ∷ [] = c.push_reserved.ensures.items in
    let at : c.place_of-place.result ≡ place_of (length s.ranges) c.args.lit.term c.args.lit.side = c.place_of-place.ensures ∙ ap (λ n. place_of n c.args.lit.term c.args.lit.side) c.vars.ensures.count in
    let known = rw (← c.self.view_is) at c.requires.exists in
    let spare : length (lits_of old) < b.room = rw (← c.self.view_is) at c.requires.spare in
    let stored = stored_put s b.room old new change b.ends.items c.place_of-place.result c.tightened.result is c.self.invariant.ends known c.self.invariant.places at c.index-before.ensures (simp to_z-of_z at c.tightened.ensures) in
    record {
      places = length-set b.ends.items _ _ ∙ c.self.invariant.places;
      ends = stored.0;
      known = subst (λ cs. All (λ c. Exists (length s.ranges) (length s.rows) c.lit.term) cs) (sym is) (All-push (λ c. Exists (length s.ranges) (length s.rows) c.lit.term) old change c.self.invariant.known known);
      replaced = subst (AreReplaced s b.room) (sym is) (replaced_push s b.room old change c.self.invariant.replaced stored.1);
      within_room = omega (arith, ap length is, length_push old change, length-map old (λ c. c.lit));
      reserved = omega (arith, c.push_reserved.ensures.capacity, c.self.invariant.reserved);
      room_fits = c.self.invariant.room_fits;
    }
