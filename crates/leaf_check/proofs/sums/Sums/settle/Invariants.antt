use Rattle.std.proofs.Common.{drop}
use Rattle.leaf_check.specs.Sums.{NamesAny, Settles}
use Rattle.leaf_check.proofs.sums.Sums.settle.Given as goal

-- the sums of the literals so far are 0
abbrev pub invariant-loop-part : goal.invariant-loop-part
invariant-loop-part l = Settles (NamesAny l.system.rows l.parts) (NamesAny l.system.rows (drop l.part-index l.parts)) l.initial.self.numbers.items l.self.numbers.items l.were_zero
