use Rattle.std.proofs.Common.{◌≡◌, take, map}
use Rattle.name_table.specs.Names.{AreDifferent}
use Rattle.name_table.proofs.repeat.first_repeat.Given as goal

abbrev pub invariant-loop-at : goal.invariant-loop-at
invariant-loop-at l = record {
  table : l.table ≡ map (λ name. name.now) (take l.at l.names);
  different : AreDifferent l.table;
}
