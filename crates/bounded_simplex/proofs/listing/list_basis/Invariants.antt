use Rattle.std.proofs.Common.{◌≡◌, length, take}
use Rattle.bounded_simplex.specs.Listing.{basis_of, ArePlaced}
use Rattle.bounded_simplex.specs.Refutation.{columns_of}
use Rattle.bounded_simplex.proofs.listing.list_basis.Given as goal

abbrev pub invariant-loop-at : goal.invariant-loop-at
invariant-loop-at l =
    record {
      basis : l.basis.items ≡ basis_of (length l.bounds.system.ranges) (take l.at l.rows);
      count : length l.places.items ≡ columns_of l.bounds.system;
      placed : ArePlaced (take l.at l.rows) l.places.items;
    }
