use Rattle.std.proofs.Common.{◌≡◌, ◌<◌, ℕ, false, length, get_or}
use Rattle.portion_cuts.specs.Paths.{is_in}
use Rattle.cost_rows.proofs.flags.portion_flags.Given as goal

abbrev pub invariant-loop-at : goal.invariant-loop-at
invariant-loop-at l = record {
  size : length l.flags.items ≡ l.at;
  flags : (at : ℕ) → at < l.at → get_or l.flags.items at false ≡ is_in l.portion at;
}
