-- The parts of a function's system, and that the pieces hold at a point.
use Rattle.std.specs.Prelude.{◌≡◌, ℕ, ℤ, List, Contains, None}
use Rattle.mix_system.specs.Row.{number_at}
use Rattle.ll_tree.specs.declared.func.Param.{Param}
use Rattle.ll_verifier.specs.Sound.{SoundFunc}
use Rattle.wrap_rows.specs.Vars.{IsNumber}
use Rattle.ir_pieces.specs.declared.list.Placed.{Placed}
use Rattle.ir_pieces.specs.Lists.{ArePlaced, AreInRanges, AllHold}
use Rattle.ir_pieces.specs.Choice.{AreNumbers}
use Rattle.path_encoding.specs.declared.spots.PathSpots.{PathSpots}
use Rattle.path_encoding.specs.Spots.{AreSpotsOf}
use Rattle.path_encoding.specs.Paths.{AreMarks}
use Rattle.value_pieces.specs.Pieces.{name_vars}
use Rattle.piece_values.specs.Known.{HasConstants}
use Rattle.piece_values.specs.Owners.{ArePiecesOf}

-- The variables are the function's, the pieces are those of its values, one behind the other, and a parameter without a range has the mark 0.
pub record AreParts (it : SoundFunc) (spots : PathSpots) (placed : List Placed) (from to : ℕ) : Type 0 where
  pub vars : AreSpotsOf it spots
  pub stand : ArePlaced from to placed
  pub pieces : ArePiecesOf it spots placed
  pub unranged : (param : Param) → Contains it.func.params param → param.range ≡ None → (name_vars it spots param.name).mark ≡ 0

-- Variables lie in their ranges, and each piece holds.
pub record PiecesHold (it : SoundFunc) (spots : PathSpots) (placed : List Placed) (point : List ℤ) : Type 0 where
  pub numbers : AreNumbers point
  pub constants : HasConstants it spots point
  pub arguments : (param : Param) → Contains it.func.params param → IsNumber param.width (number_at point (name_vars it spots param.name).number)
  pub marks : AreMarks spots point
  pub ranges : AreInRanges placed point
  pub hold : AllHold placed point
