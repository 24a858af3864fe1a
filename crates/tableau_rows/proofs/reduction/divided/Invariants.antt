use Rattle.std.proofs.Common.{◌≡◌, ℕ, ◌<◌, ◌≤◌, length, get_or}
use Rattle.tableau_rows.specs.declared.entry.Entry.{Entry}
use Rattle.tableau_rows.specs.Reduction.{IsDivided}
use Rattle.tableau_rows.proofs.reduction.divided.Given as goal

abbrev pub invariant-loop-i : goal.invariant-loop-i
invariant-loop-i l =
    record {
      as_many : length l.entries.items ≡ length l.initial.entries.items;
      done : (k : ℕ) (d : Entry) → k < l.i → IsDivided l.divisor (get_or l.initial.entries.items k d) (get_or l.entries.items k d);
      rest : (k : ℕ) (d : Entry) → l.i ≤ k → get_or l.entries.items k d ≡ get_or l.initial.entries.items k d;
    }
