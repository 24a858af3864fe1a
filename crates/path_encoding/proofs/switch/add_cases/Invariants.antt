use Rattle.std.proofs.Common.{◌≡◌, ◌++◌, map, take}
use Rattle.std.specs.Prelude.{zip, flat_map}
use Rattle.wrap_rows.specs.Normal.{clause_of}
use Rattle.path_encoding.specs.Resolved.{places, case_to}
use Rattle.path_encoding.proofs.switch.add_cases.Given as goal

abbrev pub invariant-loop-item : goal.invariant-loop-item
invariant-loop-item l =
    l.into ≡ record l.initial.into { clauses = l.initial.into.clauses ++ map clause_of (flat_map (case_to l.sound l.spots l.leaving.at l.leaving.value.number) (take l.item (zip (zip l.cases (places l.targets)) l.vars))) }
