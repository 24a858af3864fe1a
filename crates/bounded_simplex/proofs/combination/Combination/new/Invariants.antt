use Rattle.std.proofs.Common.{◌≡◌, ℕ, length, pos}
use Rattle.mix_system.specs.Row.{number_at}
use Rattle.bounded_simplex.proofs.combination.Combination.new.Given as goal

abbrev pub invariant-loop-var : goal.invariant-loop-var
invariant-loop-var l = record { count : length l.sums.items ≡ l._var; zeros : (var : ℕ) → number_at l.sums.items var ≡ pos 0 }
