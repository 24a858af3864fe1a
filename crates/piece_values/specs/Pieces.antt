-- That a list has the pieces of a function's operations and phis.
use Rattle.std.specs.Prelude.{◌≡◌, ◌==◌, ◌<◌, ℕ, List, length, map, filter, Contains, Some}
use Rattle.std.specs.Option.{unwrap_or}
use Rattle.ll_tree.specs.declared.block.Block.{Block}
use Rattle.ll_tree.specs.declared.block.Phi.{Phi}
use Rattle.ll_tree.specs.declared.block.Instr.{Instr}
use Rattle.ll_tree.specs.declared.block.Operand.{Operand}
use Rattle.ll_tree.specs.declared.block.Operand.TheVariants as operand
use Rattle.ll_tree.specs.declared.op.Op.{Op}
use Rattle.ll_rules.specs.Items.{result_width}
use Rattle.ll_links.specs.Links.{op_operands, operand_for}
use Rattle.ll_verifier.specs.declared.order.PositionEdge.{PositionEdge}
use Rattle.ll_verifier.specs.Sound.{SoundFunc}
use Rattle.portion_cuts.specs.Paths.{label_at}
use Rattle.wrap_rows.specs.declared.vars.ValueVars.{ValueVars}
use Rattle.wrap_rows.specs.declared.phi.Incoming.{Incoming}
use Rattle.wrap_rows.specs.declared.phi.Phi.{Phi as PhiPiece}
use Rattle.bit_rows.specs.declared.bitwise.BitOperand.{BitOperand}
use Rattle.ir_pieces.specs.declared.piece.IrPiece.{IrPiece}
use Rattle.ir_pieces.specs.declared.piece.IrPiece.TheVariants as kind
use Rattle.ir_pieces.specs.declared.list.Placed.{Placed}
use Rattle.ir_pieces.specs.Pieces.{vars}
use Rattle.ir_pieces.specs.Choice.{literal_of, piece_of}
use Rattle.path_encoding.specs.declared.spots.PathSpots.{PathSpots}
use Rattle.path_encoding.specs.Spots.{block_at}
use Rattle.value_pieces.specs.Pieces.{operands_of, name_vars, IsPhiPiece}

-- one of the pieces has its value at these variables
pub record Has (placed : List Placed) (at : ValueVars) (Is : IrPiece → Type 0) : Type 0 where
  pub one : Placed
  pub among : Contains placed one
  pub stands : vars one.piece one.first ≡ at
  pub piece : Is one.piece

-- a piece for each operation that has a result, and for each phi
pub record HasPieces (it : SoundFunc) (spots : PathSpots) (placed : List Placed) : Type 0 where
  pub operations : (block : Block) → Contains it.func.blocks block → (instr : Instr) → Contains block.body instr → (width : ℕ) → result_width instr.op ≡ Some width
      → Has placed (name_vars it spots instr.name) (λ piece. piece_of instr.op (operands_of it spots instr.op) ≡ Some piece)
  pub phis : (at : ℕ) → at < length it.flow.order → (phi : Phi) → Contains (block_at it at).phis phi → Has placed (name_vars it spots phi.name) (IsPhiPiece it spots at phi)
