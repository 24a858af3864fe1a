use Rattle.std.proofs.Common.{◌≡◌, ℕ, ◌<◌, length, Some}
use Rattle.mix_system.specs.declared.literal.Side.TheVariants.{Ge}
use Rattle.mix_system.specs.declared.literal.Term.TheVariants.{Var}
use Rattle.mix_system.specs.Row.{number_at}
use Rattle.bounded_simplex.specs.InForce.{in_force}
use Rattle.integer_splits.proofs.work.low_ends.Given as goal

abbrev pub invariant-loop-var : goal.invariant-loop-var
invariant-loop-var l =
    record {
      count : length l.point ≡ l.var;
      low : (k : ℕ) → k < l.var → in_force l.bounds (Var k) Ge ≡ Some (number_at l.point k);
    }
