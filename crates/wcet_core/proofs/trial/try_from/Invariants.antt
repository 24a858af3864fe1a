use Rattle.std.proofs.Common.{◌≡◌, ◌+◌, ◌-◌, ◌^◌, length, sum, vec_len}
use Rattle.std.specs.Prelude.{IsSome}
use Rattle.wx_base.specs.Args.{AreArguments}
use Rattle.wcet_core.specs.Trial.{IsLeader, ReachTheSame, place}
use Rattle.wcet_core.proofs.trial.try_from.Given as goal

-- the arguments and all before them were tried
abbrev pub invariant-loop-machine : goal.invariant-loop-machine
invariant-loop-machine g l = record {
  are : AreArguments l.widths l.args;
  room : vec_len l.leader.args ≡ length l.args;
  leads : IsLeader (g.M.Machine.reaches l.fn.machine) l.widths (place l.widths l.args + 1) l.leader.args.items l.leader.cost;
  always : g.M.Machine.always_runs l.fn.machine → IsSome l.leader.cost;
  same_widths : g.M.Machine.widths l.machine ≡ g.M.Machine.widths l.fn.machine;
  same_reach : ReachTheSame (g.M.Machine.reaches l.fn.machine) (g.M.Machine.reaches l.machine);
  still_runs : g.M.Machine.always_runs l.fn.machine → g.M.Machine.always_runs l.machine;
}

abbrev pub decreases-loop-machine : goal.decreases-loop-machine
decreases-loop-machine g l = 2 ^ sum l.widths - place l.widths l.args
