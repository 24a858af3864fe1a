use Rattle.std.proofs.Common.{◌≡◌, ◌++◌, map, take}
use Rattle.std.specs.Prelude.{zip, flat_map}
use Rattle.wrap_rows.specs.Normal.{clause_of}
use Rattle.path_encoding.specs.PathLayout.{strict_clauses}
use Rattle.path_encoding.proofs.laying.add_strict.Given as goal

abbrev pub invariant-loop-item : goal.invariant-loop-item
invariant-loop-item l =
    l.into ≡ record l.initial.into { clauses = l.initial.into.clauses ++ map clause_of (flat_map strict_clauses (take l.item (zip l.params l.values))) }
