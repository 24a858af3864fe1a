use Rattle.std.proofs.Common.{◌≡◌, ◌+◌, ◌≤◌, ◌++◌, length, take, drop, All}
use Rattle.std.specs.Prelude.{Contains}
use Rattle.mix_system.specs.declared.literal.Lit.{Lit}
use Rattle.mix_system.specs.Bounds.{IsIn, range_bounds}
use Rattle.bounded_simplex.specs.Refutation.{box_of}
use Rattle.trail_bounds.proofs.bounds.TrailBounds.settle.Given as goal

abbrev pub invariant-loop-at : goal.invariant-loop-at
invariant-loop-at l = record {
  system : l.self.system ≡ l.initial.self.system;
  depth : l.self.depth ≡ l.initial.self.depth;
  over : l.self.simplex.bounds.system ≡ l.initial.self.simplex.bounds.system;
  room : l.self.simplex.bounds.room ≡ l.initial.self.simplex.bounds.room;
  few : length l.self.simplex.bounds.changes + l.at ≤ l.ground;
  among : All (Contains (take l.ground l.trail)) l.self.simplex.bounds.changes;
  says : (lit : Lit) → IsIn (range_bounds l.initial.self.system.now.ranges ++ drop l.at (take l.ground l.trail)) lit → IsIn (box_of l.self.simplex.bounds) lit;
}

abbrev pub decreases-loop-at : goal.decreases-loop-at
decreases-loop-at l = l.at
