use Rattle.std.proofs.Common.{◌≡◌, ◌++◌}
use Rattle.std.specs.Prelude.{map, string_bytes}
use Rattle.std.specs.Vec.Iter.{into_iter_items}
use Rattle.wcet_core.proofs.edge.words_among.Given as goal

-- the names so far, and the texts that are left
abbrev pub invariant-loop-text : goal.invariant-loop-text
invariant-loop-text l = l.names ++ map string_bytes (into_iter_items l.text-iterator) ≡ map string_bytes (into_iter_items l.initial.text-iterator)
