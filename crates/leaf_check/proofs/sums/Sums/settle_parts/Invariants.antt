use Rattle.std.proofs.Common.{drop}
use Rattle.leaf_check.specs.Sums.{Names, Settles}
use Rattle.leaf_check.proofs.sums.Sums.settle_parts.Given as goal

-- the sums of the parts so far are 0
abbrev pub invariant-loop-part : goal.invariant-loop-part
invariant-loop-part l = Settles (Names l.parts) (Names (drop l.part-index l.parts)) l.initial.self.numbers.items l.self.numbers.items l.were_zero
