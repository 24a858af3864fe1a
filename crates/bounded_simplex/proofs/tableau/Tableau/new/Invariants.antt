use Rattle.std.proofs.Common.{◌≡◌, ℕ, ◌<◌, length, get_or}
use Rattle.tableau_rows.specs.declared.equation.Equation.{Equation}
use Rattle.bounded_simplex.specs.TableauOf.{IsOfRow}
use Rattle.bounded_simplex.proofs.tableau.Tableau.new.Given as goal

abbrev pub invariant-loop-row : goal.invariant-loop-row
invariant-loop-row l =
    record {
      count : length l.rows.items ≡ l.row;
      each : (k : ℕ) (d : Equation) → k < l.row → IsOfRow l.system k (get_or l.rows.items k d);
    }
