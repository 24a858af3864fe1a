-- A graph without a cycle, by places in the file and by positions in the kept order.
use Rattle.std.specs.Prelude.{◌≡◌, ◌↔◌, ◌<◌, ℕ, List, length, slice_index, All}
use Rattle.flow_graph.specs.declared.edge.Edge.{Edge}
use Rattle.flow_graph.specs.Paths.{HasEdge}
use Rattle.flow_graph.specs.Sorted.{AreSorted}
use Rattle.block_order.specs.Order.{IsKeptOrder, IsCycle}
use Rattle.flow_rules.specs.declared.flow.FlowFault.{FlowFault}
use Rattle.flow_rules.specs.declared.flow.FlowFault.TheVariants as fault
use Rattle.flow_rules.specs.declared.usage.Use.{Use}

-- The edges by places, as they were given; the places by positions; the edges by positions.
pub record Flow : Type 0 where
  pub graph : List Edge
  pub order : List ℕ
  pub edges : List Edge

-- The edges by positions: each pair once, sorted, and those of the graph.
pub record AreEdges (graph : List Edge) (order : List ℕ) (edges : List Edge) : Type 0 where
  pub sorted : AreSorted edges
  pub same : (from to : ℕ) → HasEdge edges from to
      ↔ ((from < length order) × (to < length order) × HasEdge graph (slice_index order from) (slice_index order to))

-- What holds of each flow of so many blocks.
pub record IsFlow (blocks : ℕ) (flow : Flow) : Type 0 where
  pub within : All (λ edge. (edge.from < blocks) × (edge.to < blocks)) flow.graph
  pub kept : IsKeptOrder blocks flow.graph flow.order
  pub size : length flow.order ≡ blocks
  pub edges : AreEdges flow.graph flow.order flow.edges

-- Both blocks of the use are there.
pub record IsWithin (flow : Flow) (it : Use) : Type 0 where
  pub definition : it.definition < length flow.order
  pub block : it.block < length flow.order

-- Why there is no flow: a cycle of the graph.
abbrev pub IsCause : List Edge → FlowFault → Type 0
IsCause graph (fault.Loop cycle) = IsCycle graph cycle
IsCause graph fault.NoMemory = Unit {0}
