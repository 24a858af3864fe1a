-- What is known of a function's values and constants at a point.
use Rattle.std.specs.Prelude.{◌≡◌, ℕ, ℤ, pos, List, Contains}
use Rattle.mix_system.specs.Row.{number_at}
use Rattle.ll_tree.specs.declared.block.Block.{Block}
use Rattle.ll_tree.specs.declared.block.Instr.{Instr}
use Rattle.ll_tree.specs.declared.block.Phi.{Phi}
use Rattle.ll_tree.specs.declared.block.Operand.TheVariants as operand
use Rattle.ll_rules.specs.Items.{values_of}
use Rattle.ll_links.specs.Links.{end_operands}
use Rattle.ll_verifier.specs.Sound.{SoundFunc}
use Rattle.wrap_rows.specs.Vars.{IsValue}
use Rattle.ir_constants.specs.Counted.{counted, entries_of}
use Rattle.ir_pieces.specs.Choice.{AreNumbers}
use Rattle.path_encoding.specs.declared.spots.PathSpots.{PathSpots}
use Rattle.path_encoding.specs.Spots.{operand_vars}
use Rattle.value_pieces.specs.Pieces.{name_vars}

-- the number of a constant stands at its variable
abbrev pub IsConst : SoundFunc → PathSpots → List ℤ → ℕ → Type 0
IsConst it spots point n = number_at point (operand_vars it spots (operand.Const n)).number ≡ pos n

-- each constant that is counted stands at its variable: of instructions, of phis' entries and of terminators
pub record HasConstants (it : SoundFunc) (spots : PathSpots) (point : List ℤ) : Type 0 where
  pub operations : (block : Block) → Contains it.func.blocks block → (instr : Instr) → Contains block.body instr → (n : ℕ) → Contains (counted instr.op) (operand.Const n) → IsConst it spots point n
  pub entries : (block : Block) → Contains it.func.blocks block → (phi : Phi) → Contains block.phis phi → (n : ℕ) → Contains (entries_of phi) (operand.Const n) → IsConst it spots point n
  pub ends : (block : Block) → Contains it.func.blocks block → (n : ℕ) → Contains (end_operands block.end) (operand.Const n) → IsConst it spots point n

-- Variables 0 and 1 are the numbers 0 and 1, constants stand at their variables, and each name's variables are a value of its width.
pub record AreKnown (it : SoundFunc) (spots : PathSpots) (point : List ℤ) : Type 0 where
  pub numbers : AreNumbers point
  pub constants : HasConstants it spots point
  pub values : (name : List ℕ) (width : ℕ) → Contains (values_of it.func) (name, width) → IsValue width (name_vars it spots name) point
