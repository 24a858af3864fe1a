use Rattle.std.proofs.Common.{◌≡◌, ℕ, ◌<◌, length, get_or, Option}
use Rattle.tableau_rows.specs.declared.equation.Equation.{Equation}
use Rattle.bounded_simplex.specs.Pivot.{IsFresh}
use Rattle.bounded_simplex.proofs.tableau.fresh_rows.Given as goal

abbrev pub invariant-loop-place : goal.invariant-loop-place
invariant-loop-place l =
    record {
      as_many : length l.fresh.items ≡ l.place;
      formed : (k : ℕ) (o : Option Equation) → k < l.place → IsFresh l.rows l.at l.entering k (get_or l.fresh.items k o);
    }
