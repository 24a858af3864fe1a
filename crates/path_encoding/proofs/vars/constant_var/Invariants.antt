use Rattle.std.proofs.Common.{◌≡◌, drop}
use Rattle.path_encoding.specs.Spots.{constant_among}
use Rattle.path_encoding.proofs.vars.constant_var.Given as goal

abbrev pub invariant-loop-spot : goal.invariant-loop-spot
invariant-loop-spot l = constant_among (drop l.spot-index l.constants) l.number ≡ constant_among l.constants l.number
