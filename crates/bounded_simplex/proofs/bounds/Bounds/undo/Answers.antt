use Rattle.std.proofs.Common.{◌≡◌, ap, subst, ◌∙◌, length, arith}
use Rattle.std.proofs.lemmas.List.{length-set, length_push}
use Rattle.bounded_simplex.specs.BoundPlaces.{place_of}
use Rattle.bounded_simplex.specs.StoredBounds.{AreReplaced}
use Rattle.bounded_simplex.proofs.BoundListLaws.{stored_undo, known_front, replaced_front}
use Rattle.bounded_simplex.proofs.bounds.Bounds.undo.Goals as goal

pub invariant_of-self : goal.invariant_of-self
invariant_of-self c =
    let b = c.self.inside in
    let s = b.system.now in
    let change = c.in-Some.field-0 in
    let old = b.changes.items in
    let new = c.pop.new.self.items in
    let is = c.in-Some.ensures.items in
    let at : c.place_of-place.result ≡ place_of (length s.ranges) change.lit.term change.lit.side = c.place_of-place.ensures ∙ ap (λ n. place_of n change.lit.term change.lit.side) c.vars.ensures.count in
    record {
      places = length-set b.ends.items _ _ ∙ c.self.invariant.places;
      ends = stored_undo s b.room old new change b.ends.items _ is c.self.invariant.ends c.self.invariant.known c.self.invariant.replaced c.self.invariant.places at;
      known = known_front s b.room old new change is c.self.invariant.known;
      replaced = replaced_front s b.room new change (subst (AreReplaced s b.room) is c.self.invariant.replaced);
      within_room = omega (arith, ap length is, length_push new change, c.self.invariant.within_room);
      reserved = omega (arith, c.pop.ensures.capacity, c.self.invariant.reserved);
      room_fits = c.self.invariant.room_fits;
    }
