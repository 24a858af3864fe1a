use Rattle.std.proofs.Common.{◌≡◌, map}
use Rattle.mix_system.specs.Row.{number_at}
use Rattle.bounded_simplex.specs.Listing.{outside_of}
use Rattle.bounded_simplex.proofs.listing.list_rest.Given as goal

abbrev pub invariant-loop-column : goal.invariant-loop-column
invariant-loop-column l = l.rest.items ≡ map (number_at l.values) (outside_of l.rows l.column)
