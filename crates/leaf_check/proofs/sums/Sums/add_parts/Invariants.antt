use Rattle.std.proofs.Common.{drop}
use Rattle.leaf_check.proofs.AddLaws.{PartsAdded}
use Rattle.leaf_check.proofs.sums.Sums.add_parts.Given as goal

abbrev pub invariant-loop-part : goal.invariant-loop-part
invariant-loop-part l = PartsAdded l.side l.by l.parts (drop l.part-index l.parts) l.initial.self.numbers.items l.self.numbers.items
