-- The values of a function, declared in a system.
use Rattle.std.specs.Prelude.{◌≡◌, ◌+◌, List, ◌++◌, length, take, flat_map}
use Rattle.ll_verifier.specs.Sound.{SoundFunc}
use Rattle.mix_system.specs.System.{System}
use Rattle.wrap_rows.specs.Small.{IsCompact}
use Rattle.ir_pieces.specs.declared.list.Placed.{Placed}
use Rattle.ir_pieces.specs.Lists.{ArePlaced}
use Rattle.path_encoding.specs.declared.spots.PathSpots.{PathSpots}
use Rattle.path_encoding.specs.Spots.{Exist}
use Rattle.piece_values.specs.Owners.{ArePiecesOf}
use Rattle.piece_list.specs.declared.draft.Declared.{Declared}
use Rattle.piece_list.specs.Drafts.{SameButValues}
use Rattle.piece_list.specs.Params.{param_ranges, params_vars, params_pieces}
use Rattle.piece_list.specs.Pieces.{FollowOn, own_ranges}

-- Behind a system's variables stand those of the parameters, and behind them those of the pieces of phis and instructions, one behind the other.
-- The pieces are the function's, over the spots that were kept.
pub record AreDeclared (it : SoundFunc) (spots : PathSpots) (system : System) (made : Declared) : Type 0 where
  pub own : List Placed
  pub params : take (length it.func.params) made.spots.values.items ≡ params_vars (length system.ranges) it.func.params
  pub placed : made.placed.items ≡ params_pieces (length system.ranges) it.func.params ++ own
  pub follow : FollowOn (length system.ranges + length (flat_map param_ranges it.func.params)) own
  pub grown : made.system ≡ record system { ranges = system.ranges ++ (flat_map param_ranges it.func.params ++ own_ranges own) }
  pub same : SameButValues spots made.spots
  pub pieces : ArePiecesOf it made.spots made.placed.items
  pub stand : ArePlaced 0 (length made.system.ranges) made.placed.items
  pub exist : Exist (length made.system.ranges) made.spots
  pub compact : IsCompact system → IsCompact made.system
