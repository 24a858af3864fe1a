-- Rows that sum up what a path spends, over a variable for each block and each edge.
use Rattle.std.specs.Prelude.{◌≡◌, ◌<◌, ℕ, ◌+◌, Bool, false, if◌then◌else◌, ℤ, pos, List, [], ◌∷◌, ◌++◌, length, map, zip, slice_index_or, All}
use Rattle.flow_graph.specs.declared.edge.Edge.{Edge}
use Rattle.mix_system.specs.declared.row.Part.{Part}
use Rattle.mix_system.specs.Row.{number_at}
use Rattle.wrap_rows.specs.Layout.{times}
use Rattle.wrap_rows.specs.Piece.{mark_of}
use Rattle.ll_verifier.specs.Sound.{SoundFunc}
use Rattle.sound_costs.specs.Costs.{FuncCosts}
use Rattle.portion_cuts.specs.Paths.{PositionCosts, costs_at, passes, takes}
use Rattle.cost_rows.specs.declared.vars.PathVars.{PathVars}

-- one for each block and each edge, among so many
pub record AreVarsOf (it : SoundFunc) (vars : PathVars) (count : ℕ) : Type 0 where
  pub blocks : length vars.blocks.now ≡ length it.flow.order
  pub edges : length vars.edges.now ≡ length it.flow.edges
  pub known_blocks : All (λ var. var < count) vars.blocks.now
  pub known_edges : All (λ var. var < count) vars.edges.now

-- ---- what a row sums up

-- the variables of the blocks from a position on, each times what its block costs
abbrev pub block_parts : (ℕ → ℕ) → ℕ → List ℕ → List Part
block_parts costs at [] = []
block_parts costs at (var ∷ vars) = times (pos (costs at)) var ∷ block_parts costs (at + 1) vars

-- the variables of the edges in order, each times what its edge costs
abbrev pub edge_parts : (Edge → ℕ) → List Edge → List ℕ → List Part
edge_parts costs edges vars = map (λ (edge : Edge × ℕ). times (pos (costs edge.0)) edge.1) (zip edges vars)

-- those of some blocks, and of the edges out of some blocks
abbrev pub block_row : PositionCosts → (ℕ → Bool) → ℕ → List ℕ → List Part
block_row costs inside = block_parts (λ at. if inside at then costs.block at else 0)

abbrev pub edge_row : PositionCosts → (ℕ → Bool) → List Edge → List ℕ → List Part
edge_row costs inside = edge_parts (λ edge. if inside edge.from then costs.edge edge.from edge.to else 0)

-- The row of some blocks: the sum of cost times variable over these blocks and over the edges out of them.
abbrev pub spend_parts : PositionCosts → (ℕ → Bool) → List Edge → List ℕ → List ℕ → List Part
spend_parts costs inside edges block_vars edge_vars = block_row costs inside 0 block_vars ++ edge_row costs inside edges edge_vars

abbrev pub row_parts : SoundFunc → FuncCosts → (ℕ → Bool) → PathVars → List Part
row_parts it costs inside vars = spend_parts (costs_at it costs) inside it.flow.edges vars.blocks.now vars.edges.now

-- ---- at a point

-- The variables of the blocks and edges of a path are 1, and those of all others 0.
pub record MarksPath (path : List ℕ) (graph : List Edge) (block_vars edge_vars : List ℕ) (point : List ℤ) : Type 0 where
  pub blocks : (at : ℕ) → at < length block_vars → number_at point (slice_index_or block_vars at 0) ≡ mark_of (passes path at)
  pub edges : (k : ℕ) (edge : Edge) → k < length edge_vars → slice_index_or graph k edge ≡ edge → number_at point (slice_index_or edge_vars k 0) ≡ mark_of (takes path edge)

-- ---- in code

-- a flag for each position, true at some
abbrev pub AreFlags : (ℕ → Bool) → List Bool → Type 0
AreFlags inside flags = (at : ℕ) → at < length flags → slice_index_or flags at false ≡ inside at
