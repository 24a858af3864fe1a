use Rattle.std.proofs.Common.{◌≡◌, take}
use Rattle.level_search.specs.Local.{local_hints}
use Rattle.level_search.proofs.level.LevelSearch.local_hints.Given as goal

abbrev pub invariant-loop-hint : goal.invariant-loop-hint
invariant-loop-hint l = l.local ≡ local_hints l.self.numbers.items (take l.hint-index l.hints)
