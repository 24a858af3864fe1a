-- What the blocks and edges of a function cost.
use Rattle.std.specs.Prelude.{◌≡◌, ◌==◌, ◌&&◌, ℕ, Bool, List, length, zip}
use Rattle.std.specs.Option.{unwrap_or}
use Rattle.std.specs.Map.{lookup}
use Rattle.flow_graph.specs.declared.edge.Edge.{Edge}
use Rattle.flow_graph.specs.Sorted.{AreSorted}
use Rattle.ll_tree.specs.declared.func.Func.{Func}
use Rattle.ll_rules.specs.Items.{labels_of}
use Rattle.cost_table.specs.Table.{CostLists, Table, IsCause}
use Rattle.cost_table.specs.declared.costs.CostFault.{CostFault}
use Rattle.ir_runs.specs.Costs.{LabelCosts, label_costs}
use Rattle.sound_costs.specs.declared.costs.Costs.TheInside.{Inside}
use Rattle.sound_costs.specs.Edges.{edges_of}

-- The text is a table of costs of the function, and gives these.
abbrev pub IsTableOf : List ℕ → Func → CostLists → Type 0
IsTableOf text func lists = Table text (labels_of func) (edges_of func) lists

-- why the text is no table of costs of the function
abbrev pub IsCauseOf : List ℕ → Func → CostFault → Type 0
IsCauseOf text func cause = IsCause text (labels_of func) (edges_of func) cause

-- The edges by the places of their blocks, and the costs of blocks by their places and of edges in this order.
pub record FuncCosts : Type 0 where
  pub edges : List Edge
  pub lists : CostLists

abbrev pub goes_between : ℕ → ℕ → Edge → Bool
goes_between from to edge = edge.from == from && edge.to == to

-- the cost of the edge between two places
abbrev pub edge_cost : FuncCosts → ℕ → ℕ → ℕ
edge_cost it from to = unwrap_or (lookup (goes_between from to) (zip it.edges it.lists.edges)) 0

-- These are costs of the function: its edges, and a cost for each block and each edge.
pub record AreCostsOf (func : Func) (it : FuncCosts) : Type 0 where
  pub edges : it.edges ≡ edges_of func
  pub blocks : length it.lists.blocks ≡ length func.blocks
  pub one_each : length it.lists.edges ≡ length it.edges

-- the costs of a function by labels, as the cost of a path takes them
abbrev pub costs_by_label : Func → FuncCosts → LabelCosts
costs_by_label func it = label_costs (labels_of func) (edges_of func) it.lists

-- ---- how costs are kept

abbrev pub costs_of : Inside → FuncCosts
costs_of it = record { edges = it.edges; lists = it.lists }

pub record IsKept (it : Inside) : Type 0 where
  pub sorted : AreSorted it.edges
  pub one_each : length it.lists.edges ≡ length it.edges
