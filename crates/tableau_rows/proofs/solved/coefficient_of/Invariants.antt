use Rattle.std.proofs.Common.{ℕ, ◌<◌, ◌≤◌, ◌-◌, length, get_or}
use Rattle.tableau_rows.specs.declared.entry.Entry.{Entry}
use Rattle.tableau_rows.proofs.solved.coefficient_of.Given as goal

abbrev pub invariant-loop-low : goal.invariant-loop-low
invariant-loop-low l =
    record {
      within : l.high ≤ length l.entries;
      below : (k : ℕ) (d : Entry) → k < l.low → (get_or l.entries k d).column < l.column;
      above : (k : ℕ) (d : Entry) → l.high ≤ k → k < length l.entries → l.column < (get_or l.entries k d).column;
    }

abbrev pub decreases-loop-low : goal.decreases-loop-low
decreases-loop-low l = l.high - l.low
