-- What paths cost, and what runs cost at most.
use Rattle.std.specs.Prelude.{◌≡◌, ◌≤◌, ◌+◌, ◌&&◌, ℕ, List, map, zip, drop, sum_by}
use Rattle.std.specs.Option.{unwrap_or}
use Rattle.std.specs.Map.{lookup}
use Rattle.std.specs.Str.{bytes_eq}
use Rattle.flow_graph.specs.declared.edge.Edge.{Edge}
use Rattle.cost_table.specs.Entries.{label_at}
use Rattle.cost_table.specs.Table.{CostLists}
use Rattle.ll_tree.specs.declared.func.Func.{Func}
use Rattle.ir_runs.specs.Values.{Vals}
use Rattle.ir_runs.specs.Run.{Run}
use Rattle.ir_runs.specs.declared.ret_val.RetVal.{RetVal}

-- A cost for each block by its label, and for each edge by the labels of its ends.
pub record LabelCosts : Type 0 where
  pub block : List ℕ → ℕ
  pub edge : List ℕ → List ℕ → ℕ

-- the costs of the blocks of a path, and of the edges between each two neighbours
abbrev pub path_cost : LabelCosts → List (List ℕ) → ℕ
path_cost costs path = sum_by costs.block path + sum_by (λ ends. costs.edge ends.0 ends.1) (zip path (drop 1 path))

abbrev pub end_labels : List (List ℕ) → Edge → List ℕ × List ℕ
end_labels labels edge = (label_at labels edge.from, label_at labels edge.to)

-- the costs in a table over these labels and edges
abbrev pub label_costs : List (List ℕ) → List Edge → CostLists → LabelCosts
label_costs labels edges costs = record {
  block = λ label. unwrap_or (lookup (bytes_eq label) (zip labels costs.blocks)) 0;
  edge = λ from to. unwrap_or (lookup (λ ends. bytes_eq from ends.0 && bytes_eq to ends.1) (zip (map (end_labels labels) edges) costs.edges)) 0;
}

-- the arguments have a run that costs n
pub record Reached (func : Func) (costs : LabelCosts) (n : ℕ) (args : List ℕ) : Type 0 where
  pub path : List (List ℕ)
  pub vals : Vals
  pub result : RetVal
  pub run : Run func args path vals result
  pub cost : path_cost costs path ≡ n

-- no run costs more than n
abbrev pub AtMost : Func → LabelCosts → ℕ → Type 0
AtMost func costs n = (args : List ℕ) (path : List (List ℕ)) (vals : Vals) (result : RetVal) → Run func args path vals result → path_cost costs path ≤ n

-- no arguments have a run
abbrev pub Empty : Func → Type 0
Empty func = (args : List ℕ) (path : List (List ℕ)) (vals : Vals) (result : RetVal) → ¬ Run func args path vals result
