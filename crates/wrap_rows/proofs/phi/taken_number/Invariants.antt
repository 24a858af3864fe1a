use Rattle.std.proofs.Common.{◌≡◌, drop}
use Rattle.wrap_rows.specs.Phi.{taken_number}
use Rattle.wrap_rows.proofs.phi.taken_number.Given as goal

abbrev pub invariant-loop-one : goal.invariant-loop-one
invariant-loop-one l = taken_number l.point (drop l.one-index l.incoming) ≡ taken_number l.point l.incoming
