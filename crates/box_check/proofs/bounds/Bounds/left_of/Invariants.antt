use Rattle.std.proofs.Common.{take}
use Rattle.box_check.specs.Hints.{IsFound}
use Rattle.box_check.proofs.bounds.Bounds.left_of.Given as goal

abbrev pub invariant-loop-lit : goal.invariant-loop-lit
invariant-loop-lit l = IsFound l.self (take l.lit-index l.clause) l.found
