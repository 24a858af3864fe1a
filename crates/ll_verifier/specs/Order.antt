-- Blocks in the kept order, and edges between them.
use Rattle.std.specs.Prelude.{ℕ}
use Rattle.flow_graph.specs.declared.edge.Edge.{Edge}
use Rattle.ll_links.specs.declared.link.Position.{Position}
use Rattle.ll_verifier.specs.declared.order.PositionEdge.{PositionEdge}

abbrev pub position : ℕ → Position
position at = record { 0 = at }

abbrev pub position_edge : Edge → PositionEdge
position_edge edge = record { from = position edge.from; to = position edge.to }
