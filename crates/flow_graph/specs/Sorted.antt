-- Edges in order.
use Rattle.std.specs.Prelude.{◌≡◌, ◌⊎◌, ◌↔◌, ◌<◌, ℕ, List, AllPairs}
use Rattle.flow_graph.specs.declared.edge.Edge.{Edge}
use Rattle.flow_graph.specs.Paths.{HasEdge}

-- by `from`, and then by `to`
abbrev pub ComesBefore : Edge → Edge → Type 0
ComesBefore edge next = (edge.from < next.from) ⊎ ((edge.from ≡ next.from) × (edge.to < next.to))

-- each edge comes before those behind it, so none stands twice
abbrev pub AreSorted : List Edge → Type 0
AreSorted edges = AllPairs ComesBefore edges

-- both have the same edges
abbrev pub AreSame : List Edge → List Edge → Type 0
AreSame edges others = (from to : ℕ) → HasEdge edges from to ↔ HasEdge others from to
