use Rattle.std.proofs.Common.{◌≡◌, ℕ, ◌+◌, ◌<◌, length, get_or, pos}
use Rattle.mix_system.specs.Row.{number_at}
use Rattle.bounded_simplex.specs.Settled.{AreLow}
use Rattle.bounded_simplex.proofs.simplex.first_values.Given as goal

abbrev pub invariant-loop-var : goal.invariant-loop-var
invariant-loop-var l =
    record {
      count : length l.values.items ≡ l.var;
      low : (k : ℕ) → k < l.var → number_at l.values.items k ≡ (get_or l.system.ranges k (pos 0, pos 0)).0;
    }

abbrev pub invariant-loop-row : goal.invariant-loop-row
invariant-loop-row l =
    record {
      count : length l.values.items ≡ length l.system.ranges + l._row;
      low : AreLow l.system l.values.items;
    }
