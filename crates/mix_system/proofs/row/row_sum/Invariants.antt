use Rattle.std.proofs.Common.{◌≡◌, take}
use Rattle.mix_system.specs.Row.{row_value}
use Rattle.mix_system.proofs.row.row_sum.Given as goal

abbrev pub invariant-loop-part : goal.invariant-loop-part
invariant-loop-part l = l.sum ≡ row_value (take l.part-index l.parts) l.point
