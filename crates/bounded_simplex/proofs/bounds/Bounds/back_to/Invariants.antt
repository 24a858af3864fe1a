use Rattle.std.proofs.Common.{◌≡◌, ◌≤◌, length, take}
use Rattle.bounded_simplex.proofs.bounds.Bounds.back_to.Given as goal

abbrev pub invariant-loop-mark : goal.invariant-loop-mark
invariant-loop-mark l =
    record {
      at_least : l.mark.changes ≤ length l.self.changes;
      front : l.self ≡ record l.initial.self { changes = take (length l.self.changes) l.initial.self.changes };
    }

abbrev pub decreases-loop-mark : goal.decreases-loop-mark
decreases-loop-mark l = length l.self.changes
