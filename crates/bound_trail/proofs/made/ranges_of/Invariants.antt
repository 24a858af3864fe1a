use Rattle.std.proofs.Common.{◌≡◌, take}
use Rattle.bound_trail.proofs.made.ranges_of.Given as goal

abbrev pub invariant-loop-var : goal.invariant-loop-var
invariant-loop-var l = l.ranges.items ≡ take l.var l.system.ranges
