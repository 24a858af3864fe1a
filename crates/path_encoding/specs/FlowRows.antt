-- The rows by which as many edges are taken into a block, and out of it, as it is visited.
use Rattle.std.specs.Prelude.{◌==◌, ◌-◌, ◌++◌, ℕ, pos, neg_ℤ, Bool, true, false, List, [], ◌∷◌, length, map}
use Rattle.std.specs.List.{filter, range_with_len}
use Rattle.mix_system.specs.declared.row.Part.{Part}
use Rattle.ll_tree.specs.declared.block.End.{End}
use Rattle.ll_tree.specs.declared.block.End.TheVariants as end
use Rattle.ll_verifier.specs.declared.order.PositionEdge.{PositionEdge}
use Rattle.ll_verifier.specs.Sound.{SoundFunc}
use Rattle.wrap_rows.specs.Layout.{times}
use Rattle.path_encoding.specs.declared.spots.PathSpots.{PathSpots}
use Rattle.path_encoding.specs.Spots.{block_at, block_var, edge_vars}

abbrev pub enters : ℕ → PositionEdge × ℕ → Bool
enters at edge = edge.0.to.0 == at

abbrev pub leaves : ℕ → PositionEdge × ℕ → Bool
leaves at edge = edge.0.from.0 == at

-- the sum of some edges less a block
abbrev pub flow_row : ℕ → List (PositionEdge × ℕ) → List Part
flow_row block edges = map (λ edge. times (pos 1) edge.1) edges ++ times (neg_ℤ (pos 1)) block ∷ []

abbrev pub in_row : SoundFunc → PathSpots → ℕ → List Part
in_row it spots at = flow_row (block_var spots at) (filter (enters at) (edge_vars it spots))

abbrev pub out_row : SoundFunc → PathSpots → ℕ → List Part
out_row it spots at = flow_row (block_var spots at) (filter (leaves at) (edge_vars it spots))

-- a block that ends so is left by an edge
abbrev pub goes_on : End → Bool
goes_on end.RetVoid = false
goes_on (end.Ret width value) = false
goes_on (end.Br to) = true
goes_on (end.CondBr cond when_set when_clear) = true
goes_on (end.Switch width value default cases) = true
goes_on end.Unreachable = false

-- of each block but the entry
abbrev pub in_rows : SoundFunc → PathSpots → List (List Part)
in_rows it spots = map (in_row it spots) (range_with_len 1 (length it.flow.order - 1))

-- of each block that is left by an edge
abbrev pub out_rows : SoundFunc → PathSpots → List (List Part)
out_rows it spots = map (out_row it spots) (filter (λ at. goes_on (block_at it at).end) (range_with_len 0 (length it.flow.order)))

abbrev pub flow_rows : SoundFunc → PathSpots → List (List Part)
flow_rows it spots = in_rows it spots ++ out_rows it spots
