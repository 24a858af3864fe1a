-- What contracts see of a function with its costs, and of one that is run again and again.
use Rattle.std.specs.Prelude.{◌≡◌}
use Rattle.ll_tree.specs.declared.func.Func.{Func}
use Rattle.ll_verifier.specs.Rules.{Rules}
use Rattle.number_runner.specs.Numbered.{Numbered, IsOf}
use Rattle.sound_costs.specs.Costs.{FuncCosts, AreCostsOf, costs_by_label}

-- A function, and what its blocks and edges cost.
pub record CostedFunc : Type 0 where
  pub func : Func
  pub costs : FuncCosts

-- It keeps all rules, and the costs are its own.
pub record IsOwn (it : CostedFunc) : Type 0 where
  pub rules : Rules it.func
  pub costs : AreCostsOf it.func it.costs

-- A function that keeps all rules, its own costs, and runners of that function.
pub record IsReady (func : Func) (numbers : Numbered) (it : CostedFunc) : Type 0 where
  pub same : func ≡ it.func
  pub own : IsOwn it
  pub numbers_are : IsOf it.func (costs_by_label it.func it.costs) numbers
