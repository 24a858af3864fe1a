use Rattle.std.proofs.Common.{◌≡◌, ◌++◌, map, take}
use Rattle.wrap_rows.specs.Normal.{clause_of}
use Rattle.wrap_rows.specs.Blocks.{from_operand}
use Rattle.wrap_rows.proofs.marks.add_operand_marks.Given as goal

abbrev pub invariant-loop-operand : goal.invariant-loop-operand
invariant-loop-operand l =
    l.into ≡ record l.initial.into { clauses = l.initial.into.clauses ++ map clause_of (map (from_operand l.mark) (take l.operand-index l.operands)) }
