use Rattle.std.proofs.Common.{◌≡◌, ◌+◌}
use Rattle.trail_bounds.specs.TrailBounds.{AreBoundsOf}
use Rattle.trail_bounds.proofs.bounds.TrailBounds.put_rest.Given as goal

abbrev pub invariant-loop-at : goal.invariant-loop-at
invariant-loop-at l = record {
  system : l.self.system ≡ l.initial.self.system;
  depth : l.self.depth ≡ l.initial.self.depth;
  ground : l.self.ground ≡ l.initial.self.ground;
  room : l.self.simplex.bounds.room ≡ l.initial.self.simplex.bounds.room;
  place : l.self.ground + l.self.put ≡ l.at;
  bounds : AreBoundsOf l.initial.self.system.now l.trail l.self;
}
