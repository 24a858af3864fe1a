use Rattle.std.proofs.Common.{◌≡◌, length}
use Rattle.integer_splits.specs.WholePoint.{AreValuesOf}
use Rattle.integer_splits.proofs.whole.whole_point.Given as goal

abbrev pub invariant-loop-var : goal.invariant-loop-var
invariant-loop-var l =
    record {
      count : length l.point ≡ l.var;
      values : AreValuesOf l.simplex.bounds l.simplex.tableau.rows.items l.simplex.values.items l.point;
    }
