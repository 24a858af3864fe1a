-- Where the costs of a function's edges stand, so that each is found at once.
use Rattle.std.specs.Prelude.{◌≡◌, ◌+◌, ◌*◌, ◌<◌, ◌≤◌, ℕ, List, length, slice_index_or}
use Rattle.flow_graph.specs.declared.edge.Edge.{Edge}
use Rattle.ll_rules.specs.declared.limits.TheConstants.{MAX_BLOCKS}
use Rattle.sound_costs.specs.Edges.{between}
use Rattle.sound_costs.specs.Costs.{FuncCosts, edge_cost}
use Rattle.wcet_core.specs.FuncMachine.{CostedFunc, IsOwn}

-- a row for each block, with a cell for each block to which it might lead
abbrev pub cell : ℕ → ℕ → ℕ
cell from to = from * MAX_BLOCKS + to

abbrev pub edge_at : List Edge → ℕ → Edge
edge_at edges at = slice_index_or edges at (between 0 0)

-- the cell of each edge is there
abbrev pub HasCells : FuncCosts → List ℕ → Type 0
HasCells it cells = (at : ℕ) → at < length it.edges
    → ((edge_at it.edges at).to < MAX_BLOCKS) × (cell (edge_at it.edges at).from (edge_at it.edges at).to < length cells)

-- the cost of an edge stands in its cell
abbrev pub IsPut : FuncCosts → List ℕ → Edge → Type 0
IsPut it cells edge = slice_index_or cells (cell edge.from edge.to) 0 ≡ edge_cost it edge.from edge.to

abbrev pub ArePut : FuncCosts → List ℕ → Type 0
ArePut it cells = (at : ℕ) → at < length it.edges → IsPut it cells (edge_at it.edges at)

-- A function with its own costs, and the costs of its edges in their cells.
pub record IsPriced (it : CostedFunc) (cells : List ℕ) : Type 0 where
  pub own : IsOwn it
  pub rows : MAX_BLOCKS * length it.func.blocks ≤ length cells
  pub put : ArePut it.costs cells
