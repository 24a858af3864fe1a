-- What holds of the tree of each text: its numbers fit their places.
use Rattle.std.specs.Prelude.{◌≡◌, ◌≢◌, ◌<◌, ◌≤◌, ◌^◌, ℕ, List, [], length, All, Option, Some, None, Bool, true, false}
use Rattle.ll_tree.specs.declared.limits.TheConstants.{MIN_WIDTH, MAX_WIDTH}
use Rattle.ll_tree.specs.declared.func.Func.{Func}
use Rattle.ll_tree.specs.declared.func.Param.{Param}
use Rattle.ll_tree.specs.declared.func.Range.{Range}
use Rattle.ll_tree.specs.declared.func.Ret.{Ret}
use Rattle.ll_tree.specs.declared.func.Ret.TheVariants.{Void, Int}
use Rattle.ll_tree.specs.declared.block.Block.{Block}
use Rattle.ll_tree.specs.declared.block.Phi.{Phi}
use Rattle.ll_tree.specs.declared.block.Instr.{Instr}
use Rattle.ll_tree.specs.declared.block.Case.{Case}
use Rattle.ll_tree.specs.declared.block.Operand.{Operand}
use Rattle.ll_tree.specs.declared.block.Operand.TheVariants as operand
use Rattle.ll_tree.specs.declared.block.End.{End}
use Rattle.ll_tree.specs.declared.block.End.TheVariants as end
use Rattle.ll_tree.specs.declared.op.Op.{Op}
use Rattle.ll_tree.specs.declared.op.Op.TheVariants.{Bin, Cmp, Cast, Select, Abs, Assume}

-- the number of bits of an integer type
abbrev pub IsWidth : ℕ → Type 0
IsWidth width = (MIN_WIDTH ≤ width) × (width ≤ MAX_WIDTH)

-- a number of so many bits
abbrev pub FitsWidth : ℕ → ℕ → Type 0
FitsWidth width number = number < 2 ^ width

-- an operand of so many bits
abbrev pub FitsOperand : ℕ → Operand → Type 0
FitsOperand width (operand.Name name) = Unit {0}
FitsOperand width (operand.Const number) = FitsWidth width number
FitsOperand width operand.Poison = Unit {0}

-- the bounds of a range, two different numbers of its width
abbrev pub IsRange : ℕ → Range → Type 0
IsRange width range = FitsWidth width range.lo × FitsWidth width range.hi × (range.lo ≢ range.hi)

abbrev pub FitsRange : ℕ → Option Range → Type 0
FitsRange width None = Unit {0}
FitsRange width (Some range) = IsRange width range

-- a strict parameter has a range
abbrev pub HasStrictRange : Bool → Option Range → Type 0
HasStrictRange false range = Unit {0}
HasStrictRange true None = ⊥
HasStrictRange true (Some range) = Unit {0}

abbrev pub IsFormedParam : Param → Type 0
IsFormedParam param = IsWidth param.width × FitsRange param.width param.range × HasStrictRange param.strict param.range

-- the type of a result and its range, which `void` doesn't have
abbrev pub IsFormedRet : Ret → Option Range → Type 0
IsFormedRet Void range = range ≡ None
IsFormedRet (Int width) range = IsWidth width × FitsRange width range

abbrev pub IsFormedPhi : Phi → Type 0
IsFormedPhi phi = IsWidth phi.width × (1 ≤ length phi.entries) × All (λ entry. FitsOperand phi.width entry.value) phi.entries

-- the widths of an operation, and its operands; those of a condition have one bit
abbrev pub IsFormedOp : Op → Type 0
IsFormedOp (Bin kind flags width left right) = IsWidth width × FitsOperand width left × FitsOperand width right
IsFormedOp (Cmp pred flags width left right) = IsWidth width × FitsOperand width left × FitsOperand width right
IsFormedOp (Cast kind flags from arg to) = IsWidth from × IsWidth to × FitsOperand from arg
IsFormedOp (Select width cond first second) = IsWidth width × FitsOperand 1 cond × FitsOperand width first × FitsOperand width second
IsFormedOp (Abs width arg strict) = IsWidth width × FitsOperand width arg
IsFormedOp (Assume cond) = FitsOperand 1 cond

-- an assume has the empty name, and each other instruction has another
abbrev pub HasFormedName : List ℕ → Op → Type 0
HasFormedName name (Bin kind flags width left right) = name ≢ []
HasFormedName name (Cmp pred flags width left right) = name ≢ []
HasFormedName name (Cast kind flags from arg to) = name ≢ []
HasFormedName name (Select width cond first second) = name ≢ []
HasFormedName name (Abs width arg strict) = name ≢ []
HasFormedName name (Assume cond) = name ≡ []

abbrev pub IsFormedInstr : Instr → Type 0
IsFormedInstr instr = HasFormedName instr.name instr.op × IsFormedOp instr.op

abbrev pub IsFormedCase : Case → Type 0
IsFormedCase case = IsWidth case.width × FitsWidth case.width case.value

abbrev pub IsFormedEnd : End → Type 0
IsFormedEnd end.RetVoid = Unit {0}
IsFormedEnd (end.Ret width value) = IsWidth width × FitsOperand width value
IsFormedEnd (end.Br to) = Unit {0}
IsFormedEnd (end.CondBr cond on_one on_zero) = FitsOperand 1 cond
IsFormedEnd (end.Switch width value default cases) = IsWidth width × FitsOperand width value × All IsFormedCase cases
IsFormedEnd end.Unreachable = Unit {0}

pub record IsFormedBlock (block : Block) : Type 0 where
  pub phis : All IsFormedPhi block.phis
  pub body : All IsFormedInstr block.body
  pub ends : IsFormedEnd block.end

pub record IsFormed (func : Func) : Type 0 where
  pub some_block : 1 ≤ length func.blocks
  pub ret : IsFormedRet func.ret func.ret_range
  pub params : All IsFormedParam func.params
  pub blocks : All IsFormedBlock func.blocks
