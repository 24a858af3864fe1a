-- The kept order of a graph, and cycles.
use Rattle.std.specs.Prelude.{◌≡◌, ◌<◌, ◌≤◌, ℕ, List, [], ◌∷◌, length, take, All, Contains, slice_index}
use Rattle.flow_graph.specs.declared.edge.Edge.{Edge}
use Rattle.flow_graph.specs.Paths.{HasEdge}
use Rattle.block_order.specs.declared.order.Ordered.{Ordered}
use Rattle.block_order.specs.declared.order.Ordered.TheVariants as ordered

-- a block that isn't taken, and whose predecessors all are
abbrev pub IsReady : List Edge → List ℕ → ℕ → Type 0
IsReady edges taken block = (Contains taken block → ⊥) × ((from : ℕ) → HasEdge edges from block → Contains taken from)

-- the least of these
pub record IsNext (blocks : ℕ) (edges : List Edge) (taken : List ℕ) (block : ℕ) : Type 0 where
  pub within : block < blocks
  pub ready : IsReady edges taken block
  pub least : (other : ℕ) → other < block → IsReady edges taken other → ⊥

-- again and again the block of least place whose predecessors have all been taken, until all are taken
pub record IsKeptOrder (blocks : ℕ) (edges : List Edge) (order : List ℕ) : Type 0 where
  pub next : (k : ℕ) → k < length order → IsNext blocks edges (take k order) (slice_index order k)
  pub whole : (block : ℕ) → block < blocks → Contains order block

-- edges from one block over others to a last
abbrev pub Runs : List Edge → ℕ → List ℕ → ℕ → Type 0
Runs edges from [] to = HasEdge edges from to
Runs edges from (next ∷ others) to = HasEdge edges from next × Runs edges next others to

-- each block has an edge to the next and the last to the first
abbrev pub IsClosed : List Edge → List ℕ → Type 0
IsClosed edges [] = ⊥
IsClosed edges (first ∷ others) = Runs edges first others first

-- no block has a lesser place than the first
abbrev pub LeastFirst : List ℕ → Type 0
LeastFirst [] = ⊥
LeastFirst (first ∷ others) = All (λ other. first ≤ other) others

pub record IsCycle (edges : List Edge) (cycle : List ℕ) : Type 0 where
  pub closed : IsClosed edges cycle
  pub least : LeastFirst cycle

-- the kept order, or a cycle
abbrev pub Orders : ℕ → List Edge → Ordered → Type 0
Orders blocks edges (ordered.Order order) = IsKeptOrder blocks edges order
Orders blocks edges (ordered.Cycle cycle) = IsCycle edges cycle

-- where there is an order, no blocks lie on a cycle
abbrev pub LeavesNoCycle : List Edge → Ordered → Type 0
LeavesNoCycle edges (ordered.Order order) = (cycle : List ℕ) → IsClosed edges cycle → ⊥
LeavesNoCycle edges (ordered.Cycle cycle) = Unit {0}

-- an order has so many blocks
abbrev pub HasEach : ℕ → Ordered → Type 0
HasEach blocks (ordered.Order order) = length order ≡ blocks
HasEach blocks (ordered.Cycle cycle) = Unit {0}
