use Rattle.std.proofs.Common.{◌≡◌, ℕ, ◌<◌, ◌≤◌, length, get_or, take, Option}
use Rattle.tableau_rows.specs.declared.equation.Equation.{Equation}
use Rattle.bounded_simplex.specs.Pivot.{chosen}
use Rattle.bounded_simplex.proofs.tableau.put_in.Given as goal

abbrev pub invariant-loop-slot : goal.invariant-loop-slot
invariant-loop-slot l =
    record {
      as_many : length l.rows.items ≡ length l.initial.rows.items;
      left : l.fresh.items ≡ take (length l.fresh.items) l.initial.fresh.items;
      done : (k : ℕ) (d : Equation) (o : Option Equation) → length l.fresh.items ≤ k → k < length l.initial.rows.items → get_or l.rows.items k d ≡ chosen (get_or l.initial.fresh.items k o) (get_or l.initial.rows.items k d);
      rest : (k : ℕ) (d : Equation) → k < length l.fresh.items → get_or l.rows.items k d ≡ get_or l.initial.rows.items k d;
    }

abbrev pub decreases-loop-slot : goal.decreases-loop-slot
decreases-loop-slot l = length l.fresh.items
