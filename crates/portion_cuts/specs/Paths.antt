-- Paths of a function's graph by positions in the kept order, and what they spend.
use Rattle.std.specs.Prelude.{◌≡◌, ◌≤◌, ◌+◌, ℕ, Bool, false, ◌&&◌, ◌||◌, ◌==◌, nat_le, nat_lt, if◌then◌else◌, List, [], ◌∷◌, slice_index}
use Rattle.std.specs.List.{list_any}
use Rattle.flow_graph.specs.declared.edge.Edge.{Edge}
use Rattle.block_order.specs.Walk.{IsChain}
use Rattle.ll_flow.specs.Paths.{label_of}
use Rattle.ll_verifier.specs.Sound.{SoundFunc}
use Rattle.sound_costs.specs.Costs.{FuncCosts, edge_cost}
use Rattle.ll_links.specs.declared.link.Position.{Position}
use Rattle.portion_cuts.specs.declared.portion.Portion.{Portion}
use Rattle.portion_cuts.specs.declared.portion.Region.{Region}

-- the place in the file of the block at a position
abbrev pub place_at : SoundFunc → ℕ → ℕ
place_at it position = slice_index it.flow.order position

-- its label
abbrev pub label_at : SoundFunc → ℕ → List ℕ
label_at it position = label_of it.func (place_at it position)

-- A path from the entry, which stands at position 0: each block has an edge to the next.
abbrev pub IsPath : List Edge → List ℕ → Type 0
IsPath edges [] = ⊥
IsPath edges (first ∷ rest) = (first ≡ 0) × IsChain edges first rest

-- A cost for each block by its position, and for each edge by the positions of its ends.
pub record PositionCosts : Type 0 where
  pub block : ℕ → ℕ
  pub edge : ℕ → ℕ → ℕ

abbrev pub costs_at : SoundFunc → FuncCosts → PositionCosts
costs_at it costs = record {
  block = λ position. slice_index costs.lists.blocks (place_at it position);
  edge = λ from to. edge_cost costs (place_at it from) (place_at it to);
}

abbrev pub is_in : Portion → ℕ → Bool
is_in portion position = nat_le portion.from.0 position && nat_lt position portion.to.0

abbrev pub is_within : Region → ℕ → Bool
is_within region at = list_any (λ (block : Position). block.0 == at) region.blocks.items

-- what a path spends at its last block, and at a block that it leaves by an edge, where the block is one of some
abbrev pub staying_in : PositionCosts → (ℕ → Bool) → ℕ → ℕ
staying_in costs inside at = if inside at then costs.block at else 0

abbrev pub leaving_in : PositionCosts → (ℕ → Bool) → ℕ → ℕ → ℕ
leaving_in costs inside at next = if inside at then (costs.block at + costs.edge at next) else 0

-- What a path spends in some blocks: the costs of its blocks among them, and of the edges that it takes out of these.
abbrev pub spends_in : PositionCosts → (ℕ → Bool) → List ℕ → ℕ
spends_in costs inside [] = 0
spends_in costs inside (last ∷ []) = staying_in costs inside last
spends_in costs inside (at ∷ next ∷ rest) = leaving_in costs inside at next + spends_in costs inside (next ∷ rest)

abbrev pub staying : PositionCosts → Portion → ℕ → ℕ
staying costs portion = staying_in costs (is_in portion)

abbrev pub leaving : PositionCosts → Portion → ℕ → ℕ → ℕ
leaving costs portion = leaving_in costs (is_in portion)

abbrev pub spends : PositionCosts → Portion → List ℕ → ℕ
spends costs portion = spends_in costs (is_in portion)

-- whether a path passes a position, and whether it takes an edge
abbrev pub passes : List ℕ → ℕ → Bool
passes path at = list_any (λ (position : ℕ). position == at) path

abbrev pub takes : List ℕ → Edge → Bool
takes [] edge = false
takes (last ∷ []) edge = false
takes (at ∷ next ∷ rest) edge = (edge.from == at && edge.to == next) || takes (next ∷ rest) edge

-- No path spends more in the portion, and some path spends so much.
pub record IsLongest (it : SoundFunc) (costs : FuncCosts) (portion : Portion) (most : ℕ) : Type 0 where
  pub at_most : (path : List ℕ) → IsPath it.flow.edges path → spends (costs_at it costs) portion path ≤ most
  pub reached : (path : List ℕ) × IsPath it.flow.edges path × (spends (costs_at it costs) portion path ≡ most)
