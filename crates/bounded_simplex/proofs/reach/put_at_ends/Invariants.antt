use Rattle.std.proofs.Common.{◌≡◌, ℕ, ◌<◌, length, get_or, pos}
use Rattle.mix_system.specs.Fits.{IsInRange}
use Rattle.mix_system.specs.Row.{number_at}
use Rattle.mix_system.specs.declared.row.Part.{Part}
use Rattle.bounded_simplex.specs.Lax.{end_of}
use Rattle.bounded_simplex.proofs.reach.put_at_ends.Given as goal

abbrev pub invariant-loop-part : goal.invariant-loop-part
invariant-loop-part l =
    record {
      count : length l.values.items ≡ length l.initial.values.items;
      in_range : (var : ℕ) → var < length l.system.ranges → IsInRange (get_or l.system.ranges var (pos 0, pos 0)) (number_at l.values.items var);
      ends : (k : ℕ) (d : Part) → k < l.part-index → number_at l.values.items (get_or l.parts k d).var ≡ end_of l.system.ranges l.upwards (get_or l.parts k d);
    }
