use Rattle.std.proofs.Common.{ℕ, ◌<◌}
use Rattle.mix_system.specs.declared.literal.Side.TheVariants.{Le, Ge}
use Rattle.bounded_simplex.specs.InForce.{Contradict}
use Rattle.bounded_simplex.specs.Refutation.{bound_on}
use Rattle.bounded_simplex.proofs.refutation.first_contradiction.Given as goal

abbrev pub invariant-loop-column : goal.invariant-loop-column
invariant-loop-column l =
    (column : ℕ) → column < l.column → ¬ Contradict (bound_on l.bounds column Ge) (bound_on l.bounds column Le)
