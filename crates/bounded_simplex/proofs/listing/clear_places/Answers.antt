use Rattle.std.proofs.Common.{◌≡◌, [], ◌∷◌, ◌++◌, None, rules}
use Rattle.bounded_simplex.proofs.ListingLaws.{none_more}
use Rattle.bounded_simplex.proofs.listing.clear_places.Goals as goal

pub loop-column-preserved : goal.loop-column-preserved
loop-column-preserved c =
    let places = c.loop-column.places.items in
    let added : c.push.new.self.items ≡ places ++ None ∷ [] = search rules in
    record {
      count = search rules;
      none = none_more places c.push.new.self.items c.loop-column._column c.loop-column.invariant.count added c.loop-column.invariant.none;
    }
