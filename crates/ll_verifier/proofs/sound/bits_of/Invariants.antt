use Rattle.std.proofs.Common.{◌≡◌, ◌≤◌, ◌*◌, take}
use Rattle.std.specs.Prelude.{sum_by}
use Rattle.ll_verifier.proofs.sound.bits_of.Given as goal

abbrev pub invariant-loop-param : goal.invariant-loop-param
invariant-loop-param l = record {
  sum : l.bits ≡ sum_by (λ param. param.width) (take l.param-index l.params);
  small : l.bits ≤ 32 * l.param-index;
}
