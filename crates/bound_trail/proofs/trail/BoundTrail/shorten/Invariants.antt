use Rattle.std.proofs.Common.{◌≡◌, ◌≤◌, length, take}
use Rattle.bound_trail.proofs.trail.BoundTrail.shorten.Given as goal

abbrev pub invariant-loop-self : goal.invariant-loop-self
invariant-loop-self l = record {
  enough : l.count ≤ length l.self.lits;
  no_more : length l.self.lits ≤ length l.initial.self.lits;
  is : l.self ≡ record l.initial.self { lits = take (length l.self.lits) l.initial.self.lits };
}

abbrev pub decreases-loop-self : goal.decreases-loop-self
decreases-loop-self l = length l.self.lits
