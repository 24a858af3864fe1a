-- What is known of a point before its pieces are filled in.
use Rattle.wrap_rows.specs.declared.vars.ValueVars.{ValueVars}
use Rattle.std.specs.Prelude.{pos, ◌≡◌, ℕ, ℤ, List, Contains, None}
use Rattle.mix_system.specs.Row.{number_at}
use Rattle.ll_tree.specs.declared.func.Param.{Param}
use Rattle.ll_tree.specs.declared.block.Block.{Block}
use Rattle.ll_tree.specs.declared.block.Instr.{Instr}
use Rattle.ll_tree.specs.declared.block.Phi.{Phi}
use Rattle.ll_tree.specs.declared.block.Operand.TheVariants as operand
use Rattle.ll_verifier.specs.Sound.{SoundFunc}
use Rattle.wrap_rows.specs.Vars.{IsNumber, IsMark}
use Rattle.ir_constants.specs.Counted.{counted, entries_of}
use Rattle.ir_pieces.specs.Choice.{AreNumbers}
use Rattle.path_encoding.specs.declared.spots.PathSpots.{PathSpots}
use Rattle.path_encoding.specs.Paths.{AreMarks, IsTaken}
use Rattle.value_pieces.specs.Pieces.{name_vars}
use Rattle.piece_values.specs.Known.{HasConstants}

-- The numbers 0 and 1, the constants, the arguments' numbers, with the mark 0 where a parameter has no range, and a path that is taken.
pub record IsReady (it : SoundFunc) (spots : PathSpots) (path : List ℕ) (point : List ℤ) : Type 0 where
  pub numbers : AreNumbers point
  pub constants : HasConstants it spots point
  pub arguments : (param : Param) → Contains it.func.params param → IsNumber param.width (number_at point (name_vars it spots param.name).number)
  pub unranged : (param : Param) → Contains it.func.params param → param.range ≡ None → (name_vars it spots param.name).mark ≡ 0
  pub marks : AreMarks spots point
  pub taken : IsTaken it spots point path

-- a parameter's number is its argument
abbrev pub IsArgument : List ℤ → (Param × ℕ) × ValueVars → Type 0
IsArgument point given = number_at point given.1.number ≡ pos given.0.1
