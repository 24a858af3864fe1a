-- The variables of parameters, in order: the argument's number and, where it has a range, the mark of its piece.
use Rattle.std.specs.Prelude.{ℕ, ◌+◌, ◌-◌, ◌^◌, ℤ, pos, List, [], ◌∷◌, ◌++◌, length, Option, Some, None}
use Rattle.ll_tree.specs.declared.func.Param.{Param}
use Rattle.ll_tree.specs.declared.func.Range.{Range}
use Rattle.wrap_rows.specs.declared.vars.ValueVars.{ValueVars}
use Rattle.ir_pieces.specs.declared.piece.IrPiece.{IrPiece}
use Rattle.ir_pieces.specs.declared.list.Placed.{Placed}
use Rattle.ir_pieces.specs.Choice.{range_piece}
use Rattle.path_encoding.specs.Spots.{value_vars}

abbrev pub mark_ranges : Option Range → List (ℤ × ℤ)
mark_ranges None = []
mark_ranges (Some range) = (pos 0, pos 1) ∷ []

abbrev pub param_ranges : Param → List (ℤ × ℤ)
param_ranges param = (pos 0, pos (2 ^ param.width - 1)) ∷ mark_ranges param.range

-- without a range the mark is variable 0, which is the number 0
abbrev pub param_mark : ℕ → Option Range → ℕ
param_mark number None = 0
param_mark number (Some range) = number + 1

-- where a parameter's value stands whose number is this variable
abbrev pub param_vars : ℕ → Param → ValueVars
param_vars number param = value_vars number (param_mark number param.range)

abbrev pub placed_at : ℕ → Option IrPiece → List Placed
placed_at first None = []
placed_at first (Some piece) = record { first = first; piece = piece } ∷ []

-- its piece, behind the number
abbrev pub param_piece : ℕ → Param → List Placed
param_piece number param = placed_at (number + 1) (range_piece param.range param.width number)

-- ---- of all parameters, from a variable on

abbrev pub params_vars : ℕ → List Param → List ValueVars
params_vars first [] = []
params_vars first (param ∷ params) = param_vars first param ∷ params_vars (first + length (param_ranges param)) params

abbrev pub params_pieces : ℕ → List Param → List Placed
params_pieces first [] = []
params_pieces first (param ∷ params) = param_piece first param ++ params_pieces (first + length (param_ranges param)) params
