-- The pieces of a function in the order of its values: parameters, then phis and instructions block by block in the kept order.
use Rattle.std.specs.Prelude.{◌≡◌, ℕ, ◌++◌, List, [], ◌∷◌, length, Option, Some, None, flat_map}
use Rattle.std.specs.List.{AllZip, range_with_len}
use Rattle.ll_tree.specs.declared.func.Param.{Param}
use Rattle.ll_tree.specs.declared.func.Range.{Range}
use Rattle.ll_tree.specs.declared.block.Phi.{Phi}
use Rattle.ll_tree.specs.declared.block.Instr.{Instr}
use Rattle.ll_rules.specs.Items.{Item, OfPhi, OfInstr, OfEnd, items_of, result_width}
use Rattle.ll_verifier.specs.Sound.{SoundFunc}
use Rattle.ir_pieces.specs.declared.piece.IrPiece.{IrPiece}
use Rattle.ir_pieces.specs.declared.list.Placed.{Placed}
use Rattle.ir_pieces.specs.Pieces.{vars}
use Rattle.ir_pieces.specs.Choice.{piece_of, range_piece}
use Rattle.path_encoding.specs.declared.spots.PathSpots.{PathSpots}
use Rattle.path_encoding.specs.Spots.{block_at}
use Rattle.value_pieces.specs.Pieces.{operands_of, name_vars, IsPhiPiece}

-- what has a piece: a parameter with a range, a phi of the block at a position, an instruction with a result
pub data Owner : Type 0 where
  RangeOwner : Param → Range → Owner
  PhiOwner : ℕ → Phi → Owner
  OpOwner : Instr → Owner

abbrev pub range_owner : Param → Option Range → List Owner
range_owner param None = []
range_owner param (Some range) = RangeOwner param range ∷ []

abbrev pub op_owner : Instr → Option ℕ → List Owner
op_owner instr None = []
op_owner instr (Some width) = OpOwner instr ∷ []

abbrev pub item_owner : ℕ → Item → List Owner
item_owner at (OfPhi phi) = PhiOwner at phi ∷ []
item_owner at (OfInstr instr) = op_owner instr (result_width instr.op)
item_owner at (OfEnd end) = []

abbrev pub block_owners : SoundFunc → ℕ → List Owner
block_owners it at = flat_map (item_owner at) (items_of (block_at it at))

abbrev pub owners_of : SoundFunc → List Owner
owners_of it =
    flat_map (λ param. range_owner param param.range) it.func.params
    ++ flat_map (block_owners it) (range_with_len 0 (length it.flow.order))

-- ---- their pieces

-- a piece that has its value at the variables of a name
pub record StandsAs (it : SoundFunc) (spots : PathSpots) (name : List ℕ) (placed : Placed) (Is : IrPiece → Type 0) : Type 0 where
  pub stands : vars placed.piece placed.first ≡ name_vars it spots name
  pub piece : Is placed.piece

abbrev pub IsPieceOf : SoundFunc → PathSpots → Owner → Placed → Type 0
IsPieceOf it spots (RangeOwner param range) placed =
    StandsAs it spots param.name placed (λ piece. range_piece (Some range) param.width (name_vars it spots param.name).number ≡ Some piece)
IsPieceOf it spots (PhiOwner at phi) placed = StandsAs it spots phi.name placed (IsPhiPiece it spots at phi)
IsPieceOf it spots (OpOwner instr) placed = StandsAs it spots instr.name placed (λ piece. piece_of instr.op (operands_of it spots instr.op) ≡ Some piece)

-- a piece for each owner, in order
abbrev pub ArePiecesOf : SoundFunc → PathSpots → List Placed → Type 0
ArePiecesOf it spots placed = AllZip (IsPieceOf it spots) (owners_of it) placed
