-- A function with numbers in place of names.
use Rattle.std.specs.Prelude.{ℕ, List, [], map, slice_index_or, Option, Some, None}
use Rattle.std.specs.Option.{unwrap_or}
use Rattle.ll_tree.specs.declared.func.Func.{Func}
use Rattle.ll_tree.specs.declared.block.Block.{Block}
use Rattle.ll_tree.specs.declared.block.Phi.{Phi}
use Rattle.ll_tree.specs.declared.block.Instr.{Instr}
use Rattle.ll_tree.specs.declared.block.Case.{Case}
use Rattle.ll_tree.specs.declared.block.Operand.{Operand}
use Rattle.ll_tree.specs.declared.block.End.{End}
use Rattle.ll_tree.specs.declared.block.End.TheVariants as end
use Rattle.ll_tree.specs.declared.op.Flags.{Flags}
use Rattle.ll_tree.specs.declared.op.Op.{Op}
use Rattle.ll_tree.specs.declared.op.Op.TheVariants as op
use Rattle.ll_rules.specs.Items.{OfInstr, values_of, labels_of}
use Rattle.name_table.specs.Names.{place_of}
use Rattle.ll_links.specs.declared.link.Source.{Source}
use Rattle.ll_links.specs.declared.link.Source.TheVariants as source
use Rattle.ll_links.specs.declared.link.ValueId.{ValueId}
use Rattle.ll_links.specs.declared.link.BlockId.{BlockId}
use Rattle.ll_links.specs.Links.{block_id, number_of, source_of, source_for, op_operands, result_of}
use Rattle.ir_runner.specs.declared.code.BlockCode.{BlockCode}
use Rattle.ir_runner.specs.declared.code.CaseCode.{CaseCode}
use Rattle.ir_runner.specs.declared.code.Exit.{Exit}
use Rattle.ir_runner.specs.declared.code.Exit.TheVariants as exit
use Rattle.ir_runner.specs.declared.code.Jump.{Jump}
use Rattle.ir_runner.specs.declared.code.PhiMove.{PhiMove}
use Rattle.ir_runner.specs.declared.code.Pair.{Pair}
use Rattle.ir_runner.specs.declared.code.Step.{Step}
use Rattle.ir_runner.specs.declared.code.Step.TheVariants.{Give, Assume}
use Rattle.ir_runner.specs.declared.code.StepOp.{StepOp}
use Rattle.ir_runner.specs.declared.code.StepOp.TheVariants.{Bin, Cmp, Cast, Select, Abs}

-- the slot of a value: its number
abbrev pub slot_of : Option ValueId → ℕ
slot_of None = 0
slot_of (Some id) = id.0

abbrev pub known : Option Source → Source
known found = unwrap_or found source.Poison

-- what an operand stands for
abbrev pub source_code : Func → Operand → Source
source_code func value = known (source_of (values_of func) value)

abbrev pub source_at : List Source → ℕ → Source
source_at sources at = slice_index_or sources at source.Poison

abbrev pub pair_with : Flags → ℕ → List Source → Pair
pair_with flags width sources = record { flags = flags; width = width; left = source_at sources 0; right = source_at sources 1 }

abbrev pub select_with : List Source → StepOp
select_with sources = Select (source_at sources 0) (source_at sources 1) (source_at sources 2)

-- an operation on what its operands stand for, in order, with the slot of its result
abbrev pub step_with : Op → List Source → ℕ → Step
step_with (op.Bin kind flags width left right) sources to = Give (Bin kind (pair_with flags width sources)) to
step_with (op.Cmp pred flags width left right) sources to = Give (Cmp pred (pair_with flags width sources)) to
step_with (op.Cast kind flags from arg width) sources to = Give (Cast kind flags from (source_at sources 0) width) to
step_with (op.Select width cond first second) sources to = Give (select_with sources) to
step_with (op.Abs width arg strict) sources to = Give (Abs width (source_at sources 0) strict) to
step_with (op.Assume cond) sources to = Assume (source_at sources 0)

abbrev pub step_code : Func → Instr → Step
step_code func instr = step_with instr.op (map (source_code func) (op_operands instr.op)) (slot_of (result_of (values_of func) (OfInstr instr)))

-- a phi where its block is entered from the block with a label
abbrev pub move_code : Func → List ℕ → Phi → PhiMove
move_code func from phi = record { source = known (source_for (values_of func) from phi); to = slot_of (number_of (values_of func) phi.name) }

-- the phis of the block at a place
abbrev pub phis_at : Func → ℕ → List Phi
phis_at func place = slice_index_or (map (λ block. block.phis) func.blocks) place []

-- an edge from the block with a label to the block at a place
abbrev pub jump_code : Func → List ℕ → ℕ → Jump
jump_code func from to = record { to = block_id to; moves = map (move_code func from) (phis_at func to) }

-- blocks by their places
abbrev pub places : List BlockId → List ℕ
places blocks = map (λ block. block.0) blocks

-- the place of the block with a label
abbrev pub target : Func → List ℕ → ℕ
target func label = unwrap_or (place_of label (labels_of func)) 0

abbrev pub jump_to : Func → List ℕ → List ℕ → Jump
jump_to func from label = jump_code func from (target func label)

abbrev pub case_code : Func → List ℕ → Case → CaseCode
case_code func from case = record { value = case.value; jump = jump_to func from case.to }

abbrev pub exit_code : Func → List ℕ → End → Exit
exit_code func from end.RetVoid = exit.RetVoid
exit_code func from (end.Ret width value) = exit.Ret width func.ret_noundef func.ret_range (source_code func value)
exit_code func from (end.Br to) = exit.Br (jump_to func from to)
exit_code func from (end.CondBr cond on_one on_zero) = exit.CondBr (source_code func cond) (jump_to func from on_one) (jump_to func from on_zero)
exit_code func from (end.Switch width value default cases) = exit.Switch (source_code func value) (jump_to func from default) (map (case_code func from) cases)
exit_code func from end.Unreachable = exit.Unreachable

abbrev pub block_code : Func → Block → BlockCode
block_code func block = record { steps = map (step_code func) block.body; exit = exit_code func block.label block.end }

abbrev pub code_of : Func → List BlockCode
code_of func = map (block_code func) func.blocks
