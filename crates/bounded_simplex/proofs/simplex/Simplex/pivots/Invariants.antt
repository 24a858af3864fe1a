use Rattle.std.proofs.Common.{◌≡◌, ◌≤◌, ◌-◌, false}
use Rattle.bounded_simplex.specs.Point.{AreInBounds}
use Rattle.bounded_simplex.specs.Reach.{HaveRoom}
use Rattle.bounded_simplex.proofs.simplex.Simplex.pivots.Given as goal

abbrev pub invariant-loop-broken : goal.invariant-loop-broken
invariant-loop-broken l =
    record {
      bounds : l.self.bounds ≡ l.initial.self.bounds;
      in_bounds : AreInBounds l.self.bounds l.self.values.items;
      reaches : l.self.reaches.items ≡ l.initial.self.reaches.items;
      room : HaveRoom l.self.bounds l.self.reaches.items;
      made : l.self.made ≤ l.most;
      no_point : l.self.has_point ≡ false;
    }

abbrev pub decreases-loop-broken : goal.decreases-loop-broken
decreases-loop-broken l = l.most - l.self.made
