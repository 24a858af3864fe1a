-- The whole system of a function with its costs.
use Rattle.std.specs.Prelude.{◌≡◌, ℕ, Bool, true, ℤ, pos, unsigned_abs, List, ◌∷◌, ◌++◌, length, map, take}
use Rattle.mix_system.specs.declared.row.Part.{Part}
use Rattle.mix_system.specs.declared.literal.Lit.{Lit}
use Rattle.mix_system.specs.System.{System}
use Rattle.mix_system.specs.Row.{number_at, row_value}
use Rattle.ll_verifier.specs.Sound.{SoundFunc}
use Rattle.ir_runs.specs.Costs.{path_cost}
use Rattle.sound_costs.specs.Costs.{FuncCosts, costs_by_label}
use Rattle.portion_cuts.specs.declared.portion.Region.{Region}
use Rattle.portion_cuts.specs.Paths.{label_at, costs_at, is_in, is_within, spends_in}
use Rattle.portion_cuts.specs.Portions.{portions_of}
use Rattle.wrap_rows.specs.Layout.{clause_from}
use Rattle.wrap_rows.specs.Normal.{row_of}
use Rattle.cost_rows.specs.Rows.{spend_parts}
use Rattle.ir_pieces.specs.declared.list.Placed.{Placed}
use Rattle.ir_pieces.specs.Lists.{ArePlaced, joined}
use Rattle.path_encoding.specs.declared.spots.PathSpots.{PathSpots}
use Rattle.path_encoding.specs.PathLayout.{path_layout}
use Rattle.path_encoding.specs.Paths.{IsTaken}
use Rattle.point_runs.specs.Told.{RunsAlong}
use Rattle.piece_values.specs.Owners.{ArePiecesOf}
use Rattle.piece_list.specs.Params.{params_pieces}
use Rattle.piece_list.specs.Pieces.{FollowOn}
use Rattle.system_points.specs.Places.{first_value, first_piece, AreInOrder, ranges_of}

-- ---- rows of costs

-- what a path spends in some blocks
abbrev pub spent_in : SoundFunc → FuncCosts → PathSpots → (ℕ → Bool) → List Part
spent_in it costs spots inside = spend_parts (costs_at it costs) inside it.flow.edges spots.blocks.items spots.edges.items

-- in all blocks, in each portion, in each region
abbrev pub cost_rows : SoundFunc → FuncCosts → List Region → PathSpots → List (List Part)
cost_rows it costs regions spots =
    spent_in it costs spots (λ at. true)
    ∷ (map (λ portion. spent_in it costs spots (is_in portion)) (portions_of it) ++ map (λ region. spent_in it costs spots (is_within region)) regions)

-- ---- the system

-- the pieces of parameters with a range, and behind them those of phis and instructions
abbrev pub all_pieces : SoundFunc → List Placed → List Placed
all_pieces it own = params_pieces (first_value it) it.func.params ++ own

abbrev pub rows_of : SoundFunc → FuncCosts → List Region → PathSpots → List Placed → List (List Part)
rows_of it costs regions spots placed =
    map row_of (path_layout it spots).rows ++ (map row_of (joined placed).rows ++ map row_of (cost_rows it costs regions spots))

abbrev pub clauses_of : SoundFunc → PathSpots → List Placed → List (List Lit)
clauses_of it spots placed =
    map (clause_from 0) (path_layout it spots).clauses ++ map (clause_from (length (path_layout it spots).rows)) (joined placed).clauses

-- The system of a function with its costs and some regions: exactly these variables, rows and clauses in this order.
-- Its pieces are those of the function's values over the spots. Those of phis and instructions begin behind the parameters, one behind the other.
pub record Encodes (it : SoundFunc) (costs : FuncCosts) (regions : List Region) (system : System) (spots : PathSpots) (own : List Placed) : Type 0 where
  pub order : AreInOrder it spots
  pub pieces : ArePiecesOf it spots (all_pieces it own)
  pub stand : ArePlaced 0 (length system.ranges) (all_pieces it own)
  pub follow : FollowOn (first_piece it) own
  pub ranges : system.ranges ≡ ranges_of it own
  pub rows : system.rows ≡ rows_of it costs regions spots (all_pieces it own)
  pub clauses : system.clauses ≡ clauses_of it spots (all_pieces it own)

-- ---- its points

-- the arguments that stand at a point
abbrev pub args_at : SoundFunc → PathSpots → List ℤ → List ℕ
args_at it spots point = map (λ vars. unsigned_abs (number_at point vars.number)) (take (length it.func.params) spots.values.items)

-- The arguments at a point have a run along the path that it takes. The rows of some blocks are what the run spends in them, that of all blocks what it costs.
pub record IsRunAt (it : SoundFunc) (costs : FuncCosts) (spots : PathSpots) (point : List ℤ) : Type 0 where
  pub path : List ℕ
  pub taken : IsTaken it spots point path
  pub runs : RunsAlong it (args_at it spots point) path
  pub spent : (inside : ℕ → Bool) → row_value (row_of (spent_in it costs spots inside)) point ≡ pos (spends_in (costs_at it costs) inside path)
  pub cost : row_value (row_of (spent_in it costs spots (λ at. true))) point ≡ pos (path_cost (costs_by_label it.func costs) (map (label_at it) path))
