-- The edges of a function by the places of its blocks.
use Rattle.std.specs.Prelude.{◌<◌, ℕ, Bool, List, [], map, length, slice_index_or}
use Rattle.std.specs.List.{filter, flat_map, list_any, range_with_len}
use Rattle.std.specs.Str.{bytes_eq}
use Rattle.flow_graph.specs.declared.edge.Edge.{Edge}
use Rattle.ll_tree.specs.declared.func.Func.{Func}
use Rattle.ll_rules.specs.Items.{targets_of}
use Rattle.ll_links.specs.declared.link.BlockId.{BlockId}
use Rattle.ll_links.specs.declared.link.Position.{Position}
use Rattle.ll_links.specs.Links.{block_id}
use Rattle.ll_flow.specs.Paths.{label_of}
use Rattle.ll_verifier.specs.declared.order.PositionEdge.{PositionEdge}

abbrev pub between : ℕ → ℕ → Edge
between from to = record { from = from; to = to }

-- the labels to which the block at a place may go
abbrev pub targets_at : Func → ℕ → List (List ℕ)
targets_at func place = slice_index_or (map (λ block. targets_of block.end) func.blocks) place []

-- the block at one place has the label at the other as a target
abbrev pub leads : Func → Edge → Bool
leads func edge = list_any (bytes_eq (label_of func edge.to)) (targets_at func edge.from)

-- all pairs of these places, in order
abbrev pub pairs_of : List ℕ → List ℕ → List Edge
pairs_of places others = flat_map (λ from. map (between from) others) places

abbrev pub places_of : Func → List ℕ
places_of func = range_with_len 0 (length func.blocks)

-- The edges of a function, sorted and each once: of all pairs of places those that lead from a block to a target.
abbrev pub edges_of : Func → List Edge
edges_of func = filter (leads func) (pairs_of (places_of func) (places_of func))

-- ---- edges by positions in an order of blocks

abbrev pub place_at : List BlockId → Position → ℕ
place_at order position = (slice_index_or order position.0 (block_id 0)).0

abbrev pub placed : List BlockId → PositionEdge → Edge
placed order edge = between (place_at order edge.from) (place_at order edge.to)

abbrev pub HasPlaces : ℕ → PositionEdge → Type 0
HasPlaces blocks edge = (edge.from.0 < blocks) × (edge.to.0 < blocks)
