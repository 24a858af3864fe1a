use Rattle.std.proofs.Common.{◌≡◌, ◌*◌, ◌≤◌, take}
use Rattle.std.specs.Prelude.{sum_by}
use Rattle.mix_system.specs.Tally.{halvings}
use Rattle.trail_bounds.proofs.depth.halving_depth.Given as goal

abbrev pub invariant-loop-var : goal.invariant-loop-var
invariant-loop-var l = record {
  sum : l.depth ≡ sum_by halvings (take l.var l.system.ranges);
  few : l.depth ≤ 128 * l.var;
}
