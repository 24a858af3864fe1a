-- That values are what their variables say at a point.
use Rattle.std.specs.Prelude.{◌≡◌, ◌↔◌, ◌<◌, ℕ, ℤ, pos, List, [], ◌∷◌, length, map, zip, All, Contains, Some}
use Rattle.mix_system.specs.Row.{number_at}
use Rattle.ll_tree.specs.declared.func.Param.{Param}
use Rattle.ll_tree.specs.declared.block.Block.{Block}
use Rattle.ll_tree.specs.declared.block.Case.{Case}
use Rattle.ll_tree.specs.declared.block.Instr.{Instr}
use Rattle.ll_tree.specs.declared.block.Operand.{Operand}
use Rattle.ll_tree.specs.declared.block.End.{End}
use Rattle.ll_tree.specs.declared.block.End.TheVariants as end
use Rattle.ll_tree.specs.declared.op.Op.{Op}
use Rattle.ll_tree.specs.declared.op.Op.TheVariants.{Bin, Cmp, Cast, Select, Abs, Assume}
use Rattle.ll_rules.specs.Items.{Part, Use, end_parts}
use Rattle.ll_verifier.specs.Sound.{SoundFunc}
use Rattle.ir_runs.specs.Values.{Vals, operand_value, ranged}
use Rattle.ir_runs.specs.Walk.{LeadOn, EndsWith, Returns}
use Rattle.ir_runs.specs.declared.ret_val.RetVal.{RetVal}
use Rattle.wrap_rows.specs.declared.vars.ValueVars.{ValueVars}
use Rattle.wrap_rows.specs.Vars.{IsMark, IsValue, value_at}
use Rattle.path_encoding.specs.declared.spots.PathSpots.{PathSpots}
use Rattle.path_encoding.specs.Spots.{operand_vars, block_at, case_vars}

-- ---- operands

-- number and mark of the operand's variables are those of its value
pub record Agrees (it : SoundFunc) (spots : PathSpots) (point : List ℤ) (vals : Vals) (width : ℕ) (operand : Operand) : Type 0 where
  pub value : operand_value vals operand ≡ Some (value_at (operand_vars it spots operand) point)
  pub fits : IsValue width (operand_vars it spots operand) point

abbrev pub AllAgree : SoundFunc → PathSpots → List ℤ → Vals → List Part → Type 0
AllAgree it spots point vals parts = (operand : Operand) (width : ℕ) → Contains parts (Use operand width) → Agrees it spots point vals width operand

-- what an assume asks
abbrev pub assume_parts : Op → List Part
assume_parts (Bin kind flags width left right) = []
assume_parts (Cmp pred flags width left right) = []
assume_parts (Cast kind flags from arg to) = []
assume_parts (Select width cond first second) = []
assume_parts (Abs width arg strict) = []
assume_parts (Assume cond) = Use cond 1 ∷ []

-- of all that the assumes and the terminator of a block ask
pub record AgreesIn (it : SoundFunc) (spots : PathSpots) (point : List ℤ) (vals : Vals) (block : Block) : Type 0 where
  pub assumes : (instr : Instr) → Contains block.body instr → AllAgree it spots point vals (assume_parts instr.op)
  pub ends : AllAgree it spots point vals (end_parts block.end)

-- of each block of a path
abbrev pub AgreesOn : SoundFunc → PathSpots → List ℤ → Vals → List ℕ → Type 0
AgreesOn it spots point vals path = (at : ℕ) → Contains path at → AgreesIn it spots point vals (block_at it at)

-- ---- arguments

-- a parameter's variables say its argument, poison where that isn't in its range
pub record IsGiven (point : List ℤ) (given : (Param × ℕ) × ValueVars) : Type 0 where
  pub mark : IsMark (number_at point given.1.mark)
  pub value : value_at given.1 point ≡ ranged given.0.0.range given.0.1

pub record AgreesWith (it : SoundFunc) (spots : PathSpots) (point : List ℤ) (args : List ℕ) : Type 0 where
  pub one_each : length args ≡ length it.func.params
  pub given : All (IsGiven point) (zip (zip it.func.params args) spots.values.items)

-- ---- cases

-- the variable of the number that a switch asks
abbrev pub asked_var : SoundFunc → PathSpots → End → ℕ
asked_var it spots end.RetVoid = 0
asked_var it spots (end.Ret width value) = 0
asked_var it spots (end.Br to) = 0
asked_var it spots (end.CondBr cond when_set when_clear) = 0
asked_var it spots (end.Switch width value default cases) = (operand_vars it spots value).number
asked_var it spots end.Unreachable = 0

-- a case is 1 exactly where the number that is asked is its own
pub record IsCaseSaid (point : List ℤ) (number : ℕ) (case : Case × ℕ) : Type 0 where
  pub mark : IsMark (number_at point case.1)
  pub says : (number_at point case.1 ≡ pos 1) ↔ (number_at point number ≡ pos case.0.value)

abbrev pub AreCasesSaid : SoundFunc → PathSpots → List ℤ → Type 0
AreCasesSaid it spots point = (at : ℕ) → at < length it.flow.order → All (IsCaseSaid point (asked_var it spots (block_at it at).end)) (case_vars it spots at)

-- ---- what the values do

abbrev pub blocks_on : SoundFunc → List ℕ → List Block
blocks_on it path = map (block_at it) path

-- the values lead along the path, and its last block returns
pub record ReturnsOn (it : SoundFunc) (args : List ℕ) (vals : Vals) (path : List ℕ) : Type 0 where
  pub follow : LeadOn it.func args vals (blocks_on it path)
  pub result : RetVal
  pub ends : EndsWith it.func args vals (blocks_on it path) (Returns result)
