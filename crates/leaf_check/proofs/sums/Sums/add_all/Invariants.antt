use Rattle.std.proofs.Common.{drop}
use Rattle.leaf_check.proofs.AddLaws.{LiteralsAdded}
use Rattle.leaf_check.proofs.sums.Sums.add_all.Given as goal

abbrev pub invariant-loop-part : goal.invariant-loop-part
invariant-loop-part l = LiteralsAdded l.system.rows l.parts (drop l.part-index l.parts) l.initial.self.numbers.items l.self.numbers.items l.constant
