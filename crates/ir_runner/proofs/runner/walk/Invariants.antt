use Rattle.std.proofs.Common.{◌≡◌, ◌-◌, ◌*◌, ◌^◌, ◌≤◌, length, vec_capacity}
use Rattle.ir_runs.specs.Costs.{path_cost}
use Rattle.ir_runner.specs.LastRun.{labels_at}
use Rattle.ir_runner.proofs.TurnLaws.{Stands}
use Rattle.ir_runner.proofs.runner.walk.Given as goal

-- the run stands at the last block of its path
abbrev pub invariant-turn : goal.invariant-turn
invariant-turn g l = record {
  stands : Stands l.func l.args l.at.0 l.path.items l.slots;
  cost : l.cost ≡ path_cost (g.C.PathCosts.costs l.costs) (labels_at l.func l.path.items);
  small : l.cost ≤ 2 ^ 33 * length l.path.items;
  room : length l.func.blocks ≤ vec_capacity l.path;
}

abbrev pub decreases-turn : goal.decreases-turn
decreases-turn g l = length l.func.blocks - length l.path.items
