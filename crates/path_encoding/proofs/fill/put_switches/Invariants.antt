use Rattle.std.proofs.Common.{◌≡◌}
use Rattle.path_encoding.specs.Spots.{cases_before}
use Rattle.path_encoding.specs.Filled.{AreSaidBefore}
use Rattle.path_encoding.proofs.fill.put_switches.Given as goal

abbrev pub invariant-loop-at : goal.invariant-loop-at
invariant-loop-at l = record {
  before : l.before ≡ cases_before l.sound l.at;
  done : AreSaidBefore l.sound l.spots l.initial.point l.point l.at;
}
