use Rattle.std.proofs.Common.{◌≡◌, take, map}
use Rattle.tableau_rows.specs.Turning.{turned_entry}
use Rattle.tableau_rows.proofs.solved.turned_entries.Given as goal

abbrev pub invariant-loop-entry : goal.invariant-loop-entry
invariant-loop-entry l = l.made.items ≡ map (turned_entry l.turn) (take l.entry-index l.entries)
