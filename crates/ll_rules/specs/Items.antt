-- The items of a function and their operands and labels, in written order.
use Rattle.std.specs.Prelude.{ℕ, List, [], ◌∷◌, ◌++◌, map, Option, Some, None}
use Rattle.std.specs.List.{flat_map}
use Rattle.ll_tree.specs.declared.func.Func.{Func}
use Rattle.ll_tree.specs.declared.block.Block.{Block}
use Rattle.ll_tree.specs.declared.block.Phi.{Phi}
use Rattle.ll_tree.specs.declared.block.Instr.{Instr}
use Rattle.ll_tree.specs.declared.block.Operand.{Operand}
use Rattle.ll_tree.specs.declared.block.End.{End}
use Rattle.ll_tree.specs.declared.block.End.TheVariants as end
use Rattle.ll_tree.specs.declared.op.Op.{Op}
use Rattle.ll_tree.specs.declared.op.Op.TheVariants.{Bin, Cmp, Cast, Select, Abs, Assume}

-- a phi, an instruction or a terminator
pub data Item : Type 0 where
  OfPhi : Phi → Item
  OfInstr : Instr → Item
  OfEnd : End → Item

abbrev pub items_of : Block → List Item
items_of block = map OfPhi block.phis ++ (map OfInstr block.body ++ OfEnd block.end ∷ [])

-- what an item names: an operand of so many bits, or a label
pub data Part : Type 0 where
  Use : Operand → ℕ → Part
  Goal : List ℕ → Part

abbrev pub op_parts : Op → List Part
op_parts (Bin kind flags width left right) = Use left width ∷ Use right width ∷ []
op_parts (Cmp pred flags width left right) = Use left width ∷ Use right width ∷ []
op_parts (Cast kind flags from arg to) = Use arg from ∷ []
op_parts (Select width cond first second) = Use cond 1 ∷ Use first width ∷ Use second width ∷ []
op_parts (Abs width arg strict) = Use arg width ∷ []
op_parts (Assume cond) = Use cond 1 ∷ []

abbrev pub end_parts : End → List Part
end_parts end.RetVoid = []
end_parts (end.Ret width value) = Use value width ∷ []
end_parts (end.Br to) = Goal to ∷ []
end_parts (end.CondBr cond on_one on_zero) = Use cond 1 ∷ Goal on_one ∷ Goal on_zero ∷ []
end_parts (end.Switch width value default cases) = Use value width ∷ Goal default ∷ map (λ case. Goal case.to) cases
end_parts end.Unreachable = []

abbrev pub parts_of : Item → List Part
parts_of (OfPhi phi) = flat_map (λ entry. Use entry.value phi.width ∷ Goal entry.from ∷ []) phi.entries
parts_of (OfInstr instr) = op_parts instr.op
parts_of (OfEnd end) = end_parts end

-- the labels to which a terminator may go, as often as they are written
abbrev pub targets_of : End → List (List ℕ)
targets_of end.RetVoid = []
targets_of (end.Ret width value) = []
targets_of (end.Br to) = to ∷ []
targets_of (end.CondBr cond on_one on_zero) = on_one ∷ on_zero ∷ []
targets_of (end.Switch width value default cases) = default ∷ map (λ case. case.to) cases
targets_of end.Unreachable = []

-- the width of an operation's result, none for an assume
abbrev pub result_width : Op → Option ℕ
result_width (Bin kind flags width left right) = Some width
result_width (Cmp pred flags width left right) = Some 1
result_width (Cast kind flags from arg to) = Some to
result_width (Select width cond first second) = Some width
result_width (Abs width arg strict) = Some width
result_width (Assume cond) = None

-- a name and its width
abbrev pub named : List ℕ → Option ℕ → List (List ℕ × ℕ)
named name None = []
named name (Some width) = (name, width) ∷ []

abbrev pub block_values : Block → List (List ℕ × ℕ)
block_values block = map (λ phi. (phi.name, phi.width)) block.phis ++ flat_map (λ instr. named instr.name (result_width instr.op)) block.body

-- Values in the order of the text: parameters, then phis and results block by block. A value's number is its place here.
abbrev pub values_of : Func → List (List ℕ × ℕ)
values_of func = map (λ param. (param.name, param.width)) func.params ++ flat_map block_values func.blocks

abbrev pub labels_of : Func → List (List ℕ)
labels_of func = map (λ block. block.label) func.blocks

-- all names that a function gives, in the order of its text
abbrev pub names_of : Func → List (List ℕ)
names_of func = map (λ param. param.name) func.params ++ flat_map (λ block. block.label ∷ map (λ value. value.0) (block_values block)) func.blocks
