use Rattle.std.proofs.Common.{◌≡◌}
use Rattle.path_encoding.specs.Spots.{cases_before}
use Rattle.path_encoding.proofs.place.count_over.Given as goal

abbrev pub invariant-loop-at : goal.invariant-loop-at
invariant-loop-at l = l.count ≡ cases_before l.sound l.at
