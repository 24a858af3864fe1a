use Rattle.std.proofs.Common.{◌≡◌, take}
use Rattle.mix_system.specs.Row.{number_at}
use Rattle.tableau_rows.specs.Equation.{total}
use Rattle.tableau_rows.specs.Turning.{others}
use Rattle.tableau_rows.proofs.solved.sum_of_others.Given as goal

abbrev pub invariant-loop-entry : goal.invariant-loop-entry
invariant-loop-entry l = l.sum ≡ total (number_at l.values) (others l.basic (take l.entry-index l.entries))
