use Rattle.std.proofs.Common.{◌+◌, length}
use Rattle.tableau_rows.proofs.MergeLaws.{Merging}
use Rattle.tableau_rows.proofs.substitution.Substitution.entries.Given as goal

abbrev pub invariant-loop-column : goal.invariant-loop-column
invariant-loop-column l =
    Merging l.self.row.now l.self.pivot.now l.self.of_row l.self.of_pivot l.self.entering l.left l.right l.entries.items

abbrev pub decreases-loop-column : goal.decreases-loop-column
decreases-loop-column l = length l.left + length l.right
