use Rattle.std.proofs.Common.{◌≡◌, ◌≤◌, ◌-◌, drop}
use Rattle.path_encoding.specs.Paths.{positions}
use Rattle.path_encoding.specs.Filled.{is_step}
use Rattle.path_encoding.proofs.fill.is_step.Given as goal

abbrev pub invariant-loop-item : goal.invariant-loop-item
invariant-loop-item l = record {
  some : 1 ≤ l.item;
  rest : is_step (positions (drop (l.item - 1) l.path)) l.edge ≡ is_step (positions l.path) l.edge;
}
