use Rattle.std.proofs.Common.{◌≡◌, ℕ, ◌<◌, ℤ, Some, length}
use Rattle.mix_system.specs.Calm.{IsSmall}
use Rattle.mix_system.specs.declared.literal.Side.{Side}
use Rattle.mix_system.specs.declared.literal.Term.TheVariants.{Var, Row}
use Rattle.bounded_simplex.specs.InForce.{in_force}
use Rattle.solver_rows.proofs.calm.are_bounds_small.Given as goal

abbrev pub invariant-loop-var : goal.invariant-loop-var
invariant-loop-var l =
    (var : ℕ) (side : Side) (bound : ℤ) → var < l.var → in_force l.bounds (Var var) side ≡ Some bound → IsSmall bound

abbrev pub invariant-loop-row : goal.invariant-loop-row
invariant-loop-row l =
    record {
      vars : (var : ℕ) (side : Side) (bound : ℤ) → var < length l.bounds.system.ranges → in_force l.bounds (Var var) side ≡ Some bound → IsSmall bound;
      rows : (row : ℕ) (side : Side) (bound : ℤ) → row < l.row → in_force l.bounds (Row row) side ≡ Some bound → IsSmall bound;
    }
