-- What is answered for arguments.
use Rattle.std.specs.Prelude.{◌≡◌, ◌<◌, ℕ, List, length}
use Rattle.ll_tree.specs.declared.func.Func.{Func}
use Rattle.ll_flow.specs.Paths.{label_of}
use Rattle.ir_runs.specs.Values.{Vals}
use Rattle.ir_runs.specs.Run.{Run, Stuck}
use Rattle.ir_runs.specs.Costs.{LabelCosts, path_cost}
use Rattle.ir_runs.specs.declared.run_end.RunEnd.{RunEnd}
use Rattle.ir_runs.specs.declared.run_end.RunEnd.TheVariants.{Done, Undefined}

-- The end of the arguments' walk, whose path this is: a run and its cost, or the block and the cause where they are stuck.
abbrev pub IsAnswer : Func → LabelCosts → List ℕ → List (List ℕ) → RunEnd → Type 0
IsAnswer func costs args path (Done result cost) = ((vals : Vals) × Run func args path vals result) × (cost ≡ path_cost costs path)
IsAnswer func costs args path (Undefined block cause) = (block < length func.blocks) × ((stuck : Stuck func args (label_of func block) cause) × (stuck.path ≡ path))
