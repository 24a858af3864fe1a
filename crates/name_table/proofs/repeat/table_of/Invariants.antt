use Rattle.std.proofs.Common.{◌≡◌, take, map}
use Rattle.name_table.proofs.repeat.table_of.Given as goal

abbrev pub invariant-loop-name : goal.invariant-loop-name
invariant-loop-name l = l.table ≡ map (λ name. name.now) (take l.name-index l.names)
