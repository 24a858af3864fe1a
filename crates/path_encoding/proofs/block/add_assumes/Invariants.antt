use Rattle.std.proofs.Common.{◌≡◌, ◌++◌, map, take}
use Rattle.wrap_rows.specs.Normal.{clause_of}
use Rattle.path_encoding.specs.Ends.{assumes_at}
use Rattle.path_encoding.proofs.block.add_assumes.Given as goal

abbrev pub invariant-loop-item : goal.invariant-loop-item
invariant-loop-item l =
    l.into ≡ record l.initial.into { clauses = l.initial.into.clauses ++ map clause_of (assumes_at l.sound l.spots l.at (take l.item l.body)) }
