-- Walks of a function from its entry, block by block (LLVM Language Reference, "Terminator Instructions", `llvm.assume`).
use Rattle.std.specs.Prelude.{◌≡◌, ◌↔◌, ◌==◌, ◌&&◌, ◌++◌, ℕ, Bool, true, false, not, if◌then◌else◌, List, [], ◌∷◌, map, zip, flat_map, Contains, Option, Some, None, IsSome}
use Rattle.std.specs.Option.{option_map, unwrap_or}
use Rattle.std.specs.List.{list_all, list_any, AllByRecursion, AllZip}
use Rattle.std.specs.Map.{lookup}
use Rattle.std.specs.Str.{bytes_eq}
use Rattle.wx_base.specs.Args.{AreArguments}
use Rattle.ll_tree.specs.declared.func.Func.{Func}
use Rattle.ll_tree.specs.declared.func.Param.{Param}
use Rattle.ll_tree.specs.declared.block.Block.{Block}
use Rattle.ll_tree.specs.declared.block.Case.{Case}
use Rattle.ll_tree.specs.declared.block.End.{End}
use Rattle.ll_tree.specs.declared.block.End.TheVariants as end
use Rattle.ll_tree.specs.declared.op.Op.{Op}
use Rattle.ll_tree.specs.declared.op.Op.TheVariants.{Bin, Cmp, Cast, Select, Abs, Assume}
use Rattle.ll_rules.specs.Items.{Item, OfPhi, OfInstr, OfEnd, items_of, block_values, result_width}
use Rattle.ll_flow.specs.Paths.{label_of}
use Rattle.ir_meaning.specs.declared.value.Val.{Val}
use Rattle.ir_meaning.specs.declared.value.Val.TheVariants.{Poison, Num}
use Rattle.ir_meaning.specs.Value.{on_number}
use Rattle.ir_runs.specs.Values.{Vals, is_in_range, ranged, operand_value, op_value, phi_value}
use Rattle.ir_runs.specs.declared.ret_val.RetVal.{RetVal}
use Rattle.ir_runs.specs.declared.ret_val.RetVal.TheVariants as ret
use Rattle.ir_runs.specs.declared.undefined.UndefinedCause.{UndefinedCause}
use Rattle.ir_runs.specs.declared.undefined.UndefinedCause.TheVariants as cause

-- ---- where a block leads

-- To the block with a label, or to an end.
pub data Step : Type 0 where
  Goes : List ℕ → Step
  Returns : RetVal → Step
  Fails : UndefinedCause → Step

-- a branch goes to its first target on 1, to its second on 0, and on poison nowhere
abbrev pub branch : List ℕ → List ℕ → Val → Step
branch on_one on_zero Poison = Fails cause.PoisonBranch
branch on_one on_zero (Num n) = Goes (if n == 1 then on_one else on_zero)

-- a switch goes to the target of the case that equals its value, else to its default, and on poison nowhere
abbrev pub choose : List ℕ → List Case → Val → Step
choose default cases Poison = Fails cause.PoisonSwitch
choose default cases (Num n) = Goes (unwrap_or (lookup (λ value. value == n) (map (λ case. (case.value, case.to)) cases)) default)

-- a `noundef` result isn't poison
abbrev pub give : Bool → ℕ → Val → Step
give true width Poison = Fails cause.PoisonReturn
give false width Poison = Returns (ret.Poison width)
give noundef width (Num n) = Returns (ret.Num width n)

-- a number outside the range of the result is returned as poison
abbrev pub return_of : Func → ℕ → Val → Step
return_of func width val = give func.ret_noundef width (on_number (ranged func.ret_range) val)

abbrev pub end_step : Func → Vals → End → Option Step
end_step func vals end.RetVoid = Some (Returns ret.Void)
end_step func vals (end.Ret width value) = option_map (return_of func width) (operand_value vals value)
end_step func vals (end.Br to) = Some (Goes to)
end_step func vals (end.CondBr cond on_one on_zero) = option_map (branch on_one on_zero) (operand_value vals cond)
end_step func vals (end.Switch width value default cases) = option_map (choose default cases) (operand_value vals value)
end_step func vals end.Unreachable = Some (Fails cause.Unreachable)

-- the value is the number 1
abbrev pub is_one : Option Val → Bool
is_one None = false
is_one (Some Poison) = false
is_one (Some (Num n)) = n == 1

-- the condition of an assume is 1
abbrev pub is_assumed : Vals → Op → Bool
is_assumed vals (Bin kind flags width left right) = true
is_assumed vals (Cmp pred flags width left right) = true
is_assumed vals (Cast kind flags from arg to) = true
is_assumed vals (Select width cond first second) = true
is_assumed vals (Abs width arg strict) = true
is_assumed vals (Assume cond) = is_one (operand_value vals cond)

-- some strict parameter is poison: its argument isn't in its range
abbrev pub is_barred : Param × ℕ → Bool
is_barred given = given.0.strict && not (is_in_range given.0.range given.1)

abbrev pub has_poison_argument : Func → List ℕ → Bool
has_poison_argument func args = list_any is_barred (zip func.params args)

-- Where a block leads: on where no strict parameter is poison and each assume of the block holds.
abbrev pub step_of : Func → List ℕ → Vals → Block → Option Step
step_of func args vals block =
    if has_poison_argument func args then Some (Fails cause.PoisonArgument)
    else (if list_all (λ instr. is_assumed vals instr.op) block.body then end_step func vals block.end else Some (Fails cause.FalseAssume))

-- each block but the last leads to the next
abbrev pub LeadOn : Func → List ℕ → Vals → List Block → Type 0
LeadOn func args vals [] = Unit {0}
LeadOn func args vals (block ∷ []) = Unit {0}
LeadOn func args vals (block ∷ next ∷ blocks) = (step_of func args vals block ≡ Some (Goes next.label)) × LeadOn func args vals (next ∷ blocks)

-- the last block leads there
abbrev pub EndsWith : Func → List ℕ → Vals → List Block → Step → Type 0
EndsWith func args vals [] step = ⊥
EndsWith func args vals (block ∷ []) step = step_of func args vals block ≡ Some step
EndsWith func args vals (block ∷ next ∷ blocks) step = EndsWith func args vals (next ∷ blocks) step

-- ---- values

-- the name of an item's result; an assume and a terminator have none
abbrev pub result_of : Item → Option (List ℕ)
result_of (OfPhi phi) = Some phi.name
result_of (OfInstr instr) = option_map (λ width. instr.name) (result_width instr.op)
result_of (OfEnd end) = None

-- what an item computes in a block that is entered from the one with a label, or is the entry
abbrev pub item_value : Vals → Option (List ℕ) → Item → Option Val
item_value vals before (OfPhi phi) = phi_value vals before phi
item_value vals before (OfInstr instr) = op_value vals instr.op
item_value vals before (OfEnd end) = None

abbrev pub IsGiven : Vals → Option (List ℕ) → Option Val → Type 0
IsGiven vals None val = Unit {0}
IsGiven vals (Some name) val = vals name ≡ val

-- an item's result has the value that the item computes
abbrev pub IsValued : Vals → Option (List ℕ) → Item → Type 0
IsValued vals before item = IsGiven vals (result_of item) (item_value vals before item)

abbrev pub AreValued : Vals → Option (List ℕ) → List Block → Type 0
AreValued vals before [] = Unit {0}
AreValued vals before (block ∷ blocks) = AllByRecursion (IsValued vals before) (items_of block) × AreValued vals (Some block.label) blocks

abbrev pub block_names : Block → List (List ℕ)
block_names block = map (λ value. value.0) (block_values block)

-- the parameters, and the results of some blocks
abbrev pub names_on : Func → List Block → List (List ℕ)
names_on func blocks = map (λ param. param.name) func.params ++ flat_map block_names blocks

-- ---- walks

abbrev pub widths_of : Func → List ℕ
widths_of func = map (λ param. param.width) func.params

-- the block with a label
abbrev pub block_of : Func → List ℕ → Option Block
block_of func label = lookup (bytes_eq label) (map (λ block. (block.label, block)) func.blocks)

-- A walk of the function on these arguments: the labels of the blocks that it visits from the entry on, and a value
-- for each parameter and each result of these blocks, and for no other name.
pub record Walk (func : Func) (args : List ℕ) (path : List (List ℕ)) (vals : Vals) : Type 0 where
  pub arguments : AreArguments (widths_of func) args
  pub entry : (rest : List (List ℕ)) × (path ≡ label_of func 0 ∷ rest)
  pub blocks : List Block
  pub visits : map (block_of func) path ≡ map Some blocks
  pub names : (name : List ℕ) → IsSome (vals name) ↔ Contains (names_on func blocks) name
  pub params : AllZip (λ param arg. vals param.name ≡ Some (ranged param.range arg)) func.params args
  pub values : AreValued vals None blocks
  pub follow : LeadOn func args vals blocks
