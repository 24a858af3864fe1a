use Rattle.std.proofs.Common.{◌≡◌, take}
use Rattle.mix_system.specs.Calm.{row_size}
use Rattle.mixed_rows.proofs.calm.row_size.Given as goal

abbrev pub invariant-loop-part : goal.invariant-loop-part
invariant-loop-part l = l.size ≡ row_size l.system.ranges (take l.part-index l.parts)
