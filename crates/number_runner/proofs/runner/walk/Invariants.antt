use Rattle.std.proofs.Common.{◌≡◌, ◌*◌, ◌+◌, ◌^◌, ◌≤◌, List, length, map}
use Rattle.ll_links.specs.declared.link.BlockId.{BlockId}
use Rattle.ir_meaning.specs.declared.value.Val.TheVariants.{Num}
use Rattle.ir_runs.specs.Costs.{path_cost}
use Rattle.ir_runner.specs.LastRun.{labels_at}
use Rattle.ir_runner.proofs.TurnLaws.{Stands}
use Rattle.number_runner.proofs.runner.walk.Given as goal

-- the run stands at the last block of some path
abbrev pub invariant-loop-count : goal.invariant-loop-count
invariant-loop-count g l = record {
  path : List BlockId;
  stands : Stands l.func l.args l.at.0 path (map Num l.numbers);
  cost : l.cost ≡ path_cost (g.C.PathCosts.costs l.costs) (labels_at l.func path);
  small : l.cost ≤ 2 ^ 33 * (l.count + 1);
  count : length l.numbers ≡ length l.initial.numbers;
}
