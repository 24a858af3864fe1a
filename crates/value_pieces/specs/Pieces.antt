-- The pieces of a function's values, by the variables of its blocks, edges and values.
use Rattle.std.specs.Prelude.{◌≡◌, ◌==◌, ℕ, List, map, filter}
use Rattle.std.specs.Option.{unwrap_or}
use Rattle.ll_tree.specs.declared.block.Phi.{Phi}
use Rattle.ll_tree.specs.declared.block.Operand.{Operand}
use Rattle.ll_tree.specs.declared.block.Operand.TheVariants as operand
use Rattle.ll_tree.specs.declared.op.Op.{Op}
use Rattle.ll_links.specs.Links.{op_operands, operand_for}
use Rattle.ll_verifier.specs.declared.order.PositionEdge.{PositionEdge}
use Rattle.ll_verifier.specs.Sound.{SoundFunc}
use Rattle.portion_cuts.specs.Paths.{label_at}
use Rattle.wrap_rows.specs.declared.vars.ValueVars.{ValueVars}
use Rattle.wrap_rows.specs.declared.phi.Incoming.{Incoming}
use Rattle.wrap_rows.specs.declared.phi.Phi.{Phi as PhiPiece}
use Rattle.bit_rows.specs.declared.bitwise.BitOperand.{BitOperand}
use Rattle.ir_pieces.specs.declared.piece.IrPiece.{IrPiece}
use Rattle.ir_pieces.specs.declared.piece.IrPiece.TheVariants as kind
use Rattle.ir_pieces.specs.Choice.{literal_of}
use Rattle.path_encoding.specs.declared.spots.PathSpots.{PathSpots}
use Rattle.path_encoding.specs.Spots.{operand_vars, edge_vars}

-- ---- operands

abbrev pub operand_of : SoundFunc → PathSpots → Operand → BitOperand
operand_of it spots operand = record { vars = operand_vars it spots operand; literal = literal_of operand }

abbrev pub operands_of : SoundFunc → PathSpots → Op → List BitOperand
operands_of it spots op = map (operand_of it spots) (op_operands op)

-- the variables of a name
abbrev pub name_vars : SoundFunc → PathSpots → List ℕ → ValueVars
name_vars it spots name = operand_vars it spots (operand.Name name)

-- ---- phis

-- number and mark of the operand that a phi has for the block at a position
abbrev pub coming_from : SoundFunc → PathSpots → ℕ → Phi → ValueVars
coming_from it spots from phi = operand_vars it spots (unwrap_or (operand_for (label_at it from) phi) operand.Poison)

-- an edge into the block of a phi, with the operand for its source
abbrev pub incoming_of : SoundFunc → PathSpots → Phi → PositionEdge × ℕ → Incoming
incoming_of it spots phi edge = record {
  edge = edge.1;
  value = coming_from it spots edge.0.from.0 phi;
}

-- the edges into the block at a position, with their variables
abbrev pub edges_into : SoundFunc → PathSpots → ℕ → List (PositionEdge × ℕ)
edges_into it spots at = filter (λ edge. edge.0.to.0 == at) (edge_vars it spots)

-- the piece of a phi of the block at a position
pub record IsPhiPiece (it : SoundFunc) (spots : PathSpots) (at : ℕ) (phi : Phi) (piece : IrPiece) : Type 0 where
  pub of : PhiPiece
  pub is : piece ≡ kind.Phi of
  pub width : of.width ≡ phi.width
  pub incoming : of.incoming.items ≡ map (incoming_of it spots phi) (edges_into it spots at)
