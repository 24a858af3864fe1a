use Rattle.std.proofs.Common.{◌≡◌, ◌+◌, ◌^◌, drop, sum}
use Rattle.wx_base.specs.Args.{AreArguments}
use Rattle.wcet_core.specs.Trial.{place}
use Rattle.wcet_core.proofs.trial.advance.Given as goal

-- the arguments from `i` on went back to the first, for one step of the argument before them
abbrev pub invariant-loop-i : goal.invariant-loop-i
invariant-loop-i l = record {
  are : AreArguments l.widths l.args;
  carried : place l.widths l.args + 2 ^ sum (drop l.i l.widths) ≡ place l.widths l.initial.args + 1;
}
