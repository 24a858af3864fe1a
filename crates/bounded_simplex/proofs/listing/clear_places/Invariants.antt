use Rattle.std.proofs.Common.{◌≡◌, ℕ, ◌<◌, length, get_or, Option, None}
use Rattle.bounded_simplex.proofs.listing.clear_places.Given as goal

abbrev pub invariant-loop-column : goal.invariant-loop-column
invariant-loop-column l =
    record {
      count : length l.places.items ≡ l._column;
      none : (column : ℕ) (o : Option ℕ) → column < l._column → get_or l.places.items column o ≡ None;
    }
