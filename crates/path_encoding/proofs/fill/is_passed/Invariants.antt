use Rattle.std.proofs.Common.{◌≡◌, drop}
use Rattle.portion_cuts.specs.Paths.{passes}
use Rattle.path_encoding.specs.Paths.{positions}
use Rattle.path_encoding.proofs.fill.is_passed.Given as goal

abbrev pub invariant-loop-position : goal.invariant-loop-position
invariant-loop-position l = passes (positions (drop l.position-index l.path)) l.at ≡ passes (positions l.path) l.at
