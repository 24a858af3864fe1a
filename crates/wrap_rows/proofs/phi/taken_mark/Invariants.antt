use Rattle.std.proofs.Common.{◌≡◌, drop}
use Rattle.wrap_rows.specs.Phi.{taken_mark}
use Rattle.wrap_rows.proofs.phi.taken_mark.Given as goal

abbrev pub invariant-loop-one : goal.invariant-loop-one
invariant-loop-one l = taken_mark l.point (drop l.one-index l.incoming) ≡ taken_mark l.point l.incoming
