use Rattle.std.proofs.Common.{◌≡◌, take}
use Rattle.bounded_simplex.specs.Lax.{extreme}
use Rattle.bounded_simplex.proofs.reach.sum_at_ends.Given as goal

abbrev pub invariant-loop-part : goal.invariant-loop-part
invariant-loop-part l = l.sum ≡ extreme l.system.ranges l.upwards (take l.part-index l.parts)
