use Rattle.std.proofs.Common.{◌≡◌, ℕ, length, take, ◌+ℤ◌, ◌*ℤ◌, All}
use Rattle.mix_system.specs.Row.{number_at}
use Rattle.mix_system.specs.Sum.{int_sum_by}
use Rattle.mix_system.specs.FarkasSum.{by_side, coeff_on, term_steps}
use Rattle.bounded_simplex.specs.Combination.{Fits}
use Rattle.bounded_simplex.proofs.combination.put_products.Given as goal

abbrev pub invariant-loop-part : goal.invariant-loop-part
invariant-loop-part l =
    record {
      count : length l.sums.items ≡ length l.initial.sums.items;
      summed : (var : ℕ) → number_at l.sums.items var ≡ number_at l.initial.sums.items var +ℤ by_side l.side (l.by *ℤ int_sum_by (coeff_on var) (take l.part-index l.parts));
      fit : All Fits (term_steps l.side l.by (number_at l.initial.sums.items) (take l.part-index l.parts));
    }
