use Rattle.std.proofs.Common.{◌≡◌, ℕ, ◌+◌, ◌*◌, ◌≤◌, length, get_or, None}
use Rattle.bounded_simplex.proofs.FirstBoundLaws.{RangesStand}
use Rattle.bounded_simplex.proofs.bounds.Bounds.new.Given as goal

abbrev pub invariant-loop-var : goal.invariant-loop-var
invariant-loop-var l = record { count : length l.ends.items ≡ 2 * l.var; stand : RangesStand l.system.ranges l.var l.ends.items }

abbrev pub invariant-loop-row : goal.invariant-loop-row
invariant-loop-row l =
    record {
      count : length l.ends.items ≡ 2 * (length l.system.ranges + l._row);
      stand : RangesStand l.system.ranges (length l.system.ranges) l.ends.items;
      none : (k : ℕ) → 2 * length l.system.ranges ≤ k → get_or l.ends.items k None ≡ None;
    }
