-- A function that keeps all rules, with its order, its edges and the numbers of what it names.
use Rattle.std.specs.Prelude.{◌≡◌, ℕ, map, sum_by}
use Rattle.ll_tree.specs.declared.func.Func.{Func}
use Rattle.ll_rules.specs.Items.{labels_of, values_of}
use Rattle.flow_rules.specs.Flow.{Flow}
use Rattle.ll_links.specs.Links.{block_id}
use Rattle.ll_links.specs.Table.{LinkLists, AreWhole}
use Rattle.ll_flow.specs.Paths.{IsFlowOf}
use Rattle.ll_verifier.specs.declared.paths.Checked.{Checked}
use Rattle.ll_verifier.specs.declared.sound.Sound.TheInside.{Inside}
use Rattle.ll_verifier.specs.Order.{position_edge}
use Rattle.ll_verifier.specs.Rules.{Rules, KeepsAll}

pub record IsChecked (func : Func) (checked : Checked) : Type 0 where
  pub keeps : KeepsAll func
  pub flow : IsFlowOf func checked.flow
  pub whole : AreWhole (values_of func) (labels_of func) func.blocks checked.links
  pub order : checked.order.items ≡ map block_id checked.flow.order
  pub edges : checked.edges.items ≡ map position_edge checked.flow.edges

-- the widths of the parameters together
abbrev pub bits_of : Func → ℕ
bits_of func = sum_by (λ param. param.width) func.params

-- The function, its flow by the places of its blocks, and the numbers of what its items name and give.
pub record SoundFunc : Type 0 where
  pub func : Func
  pub flow : Flow
  pub links : LinkLists

pub record IsSound (it : SoundFunc) : Type 0 where
  pub rules : Rules it.func
  pub flow : IsFlowOf it.func it.flow
  pub whole : AreWhole (values_of it.func) (labels_of it.func) it.func.blocks it.links

abbrev pub sound_of : Inside → SoundFunc
sound_of it = record { func = it.func; flow = it.checked.flow; links = it.checked.links }

pub record IsKept (it : Inside) : Type 0 where
  pub sound : IsSound (sound_of it)
  pub order : it.checked.order.items ≡ map block_id it.checked.flow.order
  pub edges : it.checked.edges.items ≡ map position_edge it.checked.flow.edges
  pub bits : it.bits ≡ bits_of it.func
