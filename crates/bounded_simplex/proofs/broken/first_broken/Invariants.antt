use Rattle.std.proofs.Common.{ℕ, ◌<◌, ◌⊎◌, get_or}
use Rattle.std.specs.Prelude.{IfNone, IfSome}
use Rattle.mix_system.specs.declared.literal.Side.{Side}
use Rattle.tableau_rows.specs.declared.equation.Equation.{Equation}
use Rattle.bounded_simplex.specs.Broken.{IsBroken}
use Rattle.bounded_simplex.specs.Lax.{IsLax}
use Rattle.bounded_simplex.specs.Point.{Keeps}
use Rattle.bounded_simplex.proofs.broken.first_broken.Given as goal

abbrev pub invariant-loop-at : goal.invariant-loop-at
invariant-loop-at l =
    record {
      none : IfNone l.found ((k : ℕ) (d : Equation) → k < l.at → (side : Side) → Keeps l.bounds l.values (get_or l.rows k d) side ⊎ IsLax l.bounds (get_or l.rows k d).basic side);
      broken : IfSome l.found (IsBroken l.bounds l.rows l.values);
    }
