use Rattle.std.proofs.Common.{ℕ, ◌<◌, ℤ, get_or}
use Rattle.mix_system.specs.Calm.{IsSmall}
use Rattle.mixed_rows.proofs.calm.are_ends_small.Given as goal

abbrev pub invariant-loop-var : goal.invariant-loop-var
invariant-loop-var l =
    (k : ℕ) (d : ℤ × ℤ) → k < l.var → IsSmall (get_or l.system.ranges k d).0 × IsSmall (get_or l.system.ranges k d).1
