use Rattle.std.proofs.Common.{◌≡◌, take, map}
use Rattle.tableau_rows.specs.Turning.{entry_of}
use Rattle.tableau_rows.proofs.equation.Equation.of_row.Given as goal

abbrev pub invariant-loop-part : goal.invariant-loop-part
invariant-loop-part l = l.entries.items ≡ map entry_of (take l.part-index l.parts)
