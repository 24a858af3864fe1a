use Rattle.std.proofs.Common.{ℕ, ◌*◌, ◌≤◌, take}
use Rattle.std.specs.List.{sum_by}
use Rattle.mix_system.specs.Tally.{halvings}
use Rattle.solver_rows.proofs.calm.depth.Given as goal

abbrev pub invariant-loop-var : goal.invariant-loop-var
invariant-loop-var l =
    record {
      counted : sum_by halvings (take l.var l.system.ranges) ≤ l.depth;
      few : l.depth ≤ 128 * l.var;
    }
