use Rattle.std.proofs.Common.{◌≡◌, ◌++◌, map, take}
use Rattle.wrap_rows.specs.Normal.{clause_of}
use Rattle.wrap_rows.specs.Blocks.{from_listed}
use Rattle.wrap_rows.proofs.marks.add_listed_marks.Given as goal

abbrev pub invariant-loop-lit : goal.invariant-loop-lit
invariant-loop-lit l =
    l.into ≡ record l.initial.into { clauses = l.initial.into.clauses ++ map clause_of (map (from_listed l.mark) (take l.lit-index l.listed)) }
