use Rattle.std.proofs.Common.{◌≡◌, ◌<◌, ◌^◌, ℕ, length, get_or}
use Rattle.portion_cuts.specs.Paths.{costs_at, staying}
use Rattle.portion_cuts.proofs.best.list_staying.Given as goal

abbrev pub invariant-loop-at : goal.invariant-loop-at
invariant-loop-at l = record {
  size : length l.best.items ≡ l.at;
  values : (at : ℕ) → at < l.at → get_or l.best.items at 0 ≡ staying (costs_at l.sound l.costs) l.portion at;
  small : (at : ℕ) → at < l.at → get_or l.best.items at 0 < 2 ^ 32;
}
