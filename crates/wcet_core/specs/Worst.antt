-- The run of a witness, and the worst case.
use Rattle.std.specs.Prelude.{◌≡◌, ℕ, List, map}
use Rattle.wx_base.specs.Args.{ComesBefore}
use Rattle.wx_base.specs.declared.lists.Arg.{Arg}
use Rattle.ll_tree.specs.declared.func.Func.{Func}
use Rattle.ir_runs.specs.Costs.{LabelCosts, Reached, AtMost, path_cost}
use Rattle.ir_runs.specs.Run.{Run}
use Rattle.ir_runs.specs.Values.{Vals}
use Rattle.ir_runs.specs.Walk.{widths_of}
use Rattle.witness_report.specs.declared.answer.Witness.{Witness}

abbrev pub numbers_of : List Arg → List ℕ
numbers_of args = map (λ arg. arg.value) args

-- The function runs on the witness's arguments, along its path and with its result and cost.
pub record IsRun (func : Func) (costs : LabelCosts) (witness : Witness) : Type 0 where
  pub widths : map (λ arg. arg.width) witness.args ≡ widths_of func
  pub vals : Vals
  pub run : Run func (numbers_of witness.args) witness.path vals witness.result
  pub cost : path_cost costs witness.path ≡ witness.cost

-- No arguments have a run that costs more, and none that come before the witness's have one that costs as much.
pub record IsWorst (func : Func) (costs : LabelCosts) (witness : Witness) : Type 0 where
  pub run : IsRun func costs witness
  pub at_most : AtMost func costs witness.cost
  pub first : (others : List ℕ) → Reached func costs witness.cost others → ¬ ComesBefore others (numbers_of witness.args)
