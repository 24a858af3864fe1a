use Rattle.std.proofs.Common.{ℕ, ◌<◌, slice_index_or, pos}
use Rattle.mix_system.specs.Row.{number_at}
use Rattle.mix_system.specs.Fits.{IsInRange}
use Rattle.mix_system.proofs.system.System.is_in_ranges.Given as goal

abbrev pub invariant-loop-var : goal.invariant-loop-var
invariant-loop-var l =
    (var : ℕ) → var < l.var → IsInRange (slice_index_or l.self.ranges var (pos 0, pos 0)) (number_at l.point var)
