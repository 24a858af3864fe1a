-- How a flow is kept.
use Rattle.std.specs.Prelude.{◌≡◌, ◌<◌, ◌≤◌, ◌+◌, ◌^◌, ℕ, Bool, List, [], length, slice_index, slice_index_or}
use Rattle.flow_graph.specs.declared.edge.Edge.{Edge}
use Rattle.flow_graph.specs.Paths.{AreMarks}
use Rattle.flow_rules.specs.declared.flow.Flow.TheInside.{Inside}
use Rattle.flow_rules.specs.Flow.{Flow, IsFlow}

-- each place has the position at which the order has it
pub record ArePositions (order positions : List ℕ) : Type 0 where
  pub size : length positions ≡ length order
  pub there : (position : ℕ) → position < length order → slice_index positions (slice_index order position) ≡ position

-- an edge by positions
abbrev pub renumbered : List ℕ → Edge → Edge
renumbered positions edge = record { from = slice_index positions edge.from; to = slice_index positions edge.to }

abbrev pub row_at : List (List Bool) → ℕ → List Bool
row_at rows at = slice_index_or rows at []

-- A row for each block that is left out, and one for none: what is reached around it.
pub record AreRows (edges : List Edge) (entry blocks : ℕ) (rows : List (List Bool)) : Type 0 where
  pub count : length rows ≡ blocks + 1
  pub sizes : (without : ℕ) → without ≤ blocks → length (row_at rows without) ≡ blocks
  pub marks : (without : ℕ) → without ≤ blocks → AreMarks edges entry without (row_at rows without)

abbrev pub flow_of : Inside → Flow
flow_of it = record { graph = it.graph; order = it.order; edges = it.edges }

pub record IsSound (it : Inside) : Type 0 where
  pub flow : IsFlow (length it.order) (flow_of it)
  pub entry : 0 < length it.order
  pub few : length it.order < 2 ^ 32
  pub positions : ArePositions it.order it.positions
  pub rows : AreRows it.edges (slice_index it.positions 0) (length it.order) it.rows
