-- What contracts see of a function over numbers.
use Rattle.std.specs.Prelude.{◌≡◌, ◌≤◌, List, length, vec_len}
use Rattle.ll_tree.specs.declared.func.Func.{Func}
use Rattle.ll_rules.specs.Items.{values_of}
use Rattle.ll_verifier.specs.Rules.{Rules}
use Rattle.ir_runs.specs.Costs.{LabelCosts}
use Rattle.ir_runner.specs.Code.{code_of}
use Rattle.number_runner.specs.declared.code.NumberBlock.{NumberBlock}
use Rattle.number_runner.specs.declared.runner.NumberRunner.TheInside.{Inside}
use Rattle.number_runner.specs.Costs.{AreBlocks}

pub record Numbered : Type 0 where
  pub func : Func
  pub code : List NumberBlock

-- The function keeps all rules, and there is a number for each value.
pub record IsReady (runner : Inside) : Type 0 where
  pub rules : Rules runner.sound.now.func
  pub numbers : length (values_of runner.sound.now.func) ≤ vec_len runner.numbers

-- Its blocks stand for those of the function, with these costs.
pub record IsOf (func : Func) (costs : LabelCosts) (it : Numbered) : Type 0 where
  pub same : it.func ≡ func
  pub count : length it.code ≡ length func.blocks
  pub blocks : AreBlocks func costs (code_of func) it.code
