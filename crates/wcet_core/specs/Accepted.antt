-- What the words and the files of a command give: a job, a function, its costs.
use Rattle.std.specs.Prelude.{ℕ, ◌≤◌, List, length}
use Rattle.wx_base.specs.Files.{Contents, AreTold}
use Rattle.ll_tree.specs.declared.func.Func.{Func}
use Rattle.ll_reader.specs.FileSpells.{FileSpells}
use Rattle.ll_verifier.specs.Rules.{Rules}
use Rattle.cost_table.specs.Table.{CostLists}
use Rattle.ir_runs.specs.Costs.{LabelCosts}
use Rattle.sound_costs.specs.Costs.{IsTableOf, costs_by_label}
use Rattle.sound_costs.specs.Edges.{edges_of}
use Rattle.command_words.specs.Words.{JobWords, Asks}
use Rattle.wcet_core.specs.declared.limits.TheConstants.{FILE_LIMIT, COSTS_LIMIT}

-- these bytes stand under the name, and there are no more of them than the limit
pub record StandsUnder (contents : Contents) (name : List ℕ) (limit : ℕ) (bytes : List ℕ) : Type 0 where
  pub told : AreTold contents name bytes
  pub within : length bytes ≤ limit

-- The words ask for the job, and its file spells the function.
pub record IsSpelled (words : List (List ℕ)) (contents : Contents) (job : JobWords) (func : Func) : Type 0 where
  pub asks : Asks words job
  pub text : List ℕ
  pub stands : StandsUnder contents job.file FILE_LIMIT text
  pub spells : FileSpells text job.function func

-- The function keeps all rules.
pub record IsAccepted (words : List (List ℕ)) (contents : Contents) (job : JobWords) (func : Func) : Type 0 where
  pub spelled : IsSpelled words contents job func
  pub rules : Rules func

-- The job's table gives its costs.
pub record IsCosted (words : List (List ℕ)) (contents : Contents) (job : JobWords) (func : Func) (costs : CostLists) : Type 0 where
  pub accepted : IsAccepted words contents job func
  pub text : List ℕ
  pub stands : StandsUnder contents job.costs COSTS_LIMIT text
  pub table : IsTableOf text func costs

-- the costs of a function by labels
abbrev pub costs_of : Func → CostLists → LabelCosts
costs_of func costs = costs_by_label func (record { edges = edges_of func; lists = costs })
