-- A use by places, and the first that isn't defined.
use Rattle.std.specs.Prelude.{◌≡◌, ◌↔◌, ◌<◌, ◌^◌, IsTrue, List, length, map, All, Contains, Option, MatchOption}
use Rattle.ll_tree.specs.declared.func.Func.{Func}
use Rattle.ll_rules.specs.Items.{labels_of, values_of}
use Rattle.ll_items.specs.Sites.{site_of}
use Rattle.name_table.specs.Names.{AreDifferent}
use Rattle.flow_rules.specs.declared.usage.Use.{Use}
use Rattle.flow_rules.specs.Flow.{Flow}
use Rattle.flow_rules.specs.Paths as places
use Rattle.ll_flow.specs.declared.homes.Home.{Home}
use Rattle.ll_flow.specs.declared.homes.Home.TheVariants as home
use Rattle.ll_flow.specs.declared.uses.Moment.{Moment}
use Rattle.ll_flow.specs.declared.uses.Undefined.{Undefined}
use Rattle.ll_flow.specs.declared.uses.Uses.{Uses}
use Rattle.ll_flow.specs.Homes.{homes_of}
use Rattle.ll_flow.specs.Paths.{label_of, IsFlowOf}
use Rattle.ll_flow.specs.Uses.{ValueUse, ComesBefore, IsDefined, IsFirstUndefined}

-- the value is given there, and comes before that moment where the use is in the same block
abbrev pub Agrees : Home → Moment → Use → Type 0
Agrees home.Param moment usage = (usage.definition ≡ 0) × IsTrue usage.comes_first
Agrees (home.At block item) moment usage = (usage.definition ≡ block) × (IsTrue usage.comes_first ↔ ComesBefore item moment)

-- the use by places
pub record IsPlaced (func : Func) (it : ValueUse) (usage : Use) : Type 0 where
  pub home : Home
  pub given : Contains (homes_of func) (it.name, home)
  pub agrees : Agrees home it.moment usage
  pub definition : usage.definition < length func.blocks
  pub block : usage.block < length func.blocks
  pub there : label_of func usage.block ≡ it.block

-- the tables of the function
pub record AreUses (it : Uses) : Type 0 where
  pub flow : IsFlowOf it.func.now it.flow.now
  pub homes : it.homes.now ≡ map (λ home. home.1) (homes_of it.func.now)
  pub values : it.values.now ≡ values_of it.func.now
  pub labels : it.labels.now ≡ labels_of it.func.now
  pub few : length it.func.now.blocks < 2 ^ 32
  pub different_values : AreDifferent (map (λ value. value.0) (values_of it.func.now))
  pub different_labels : AreDifferent (labels_of it.func.now)

pub record IsFound (func : Func) (flow : Flow) (found : Undefined) (it : ValueUse) : Type 0 where
  pub site : site_of found.site ≡ it.site
  pub within : found.site.block < length func.blocks
  pub name : found.name.now ≡ it.name
  pub placed : IsPlaced func it found.it
  pub undefined : ¬ places.IsDefined flow.graph found.it

-- the first of some uses that isn't defined
abbrev pub FindsFirst : Uses → List ValueUse → Undefined → Type 0
FindsFirst tables uses found = (it : ValueUse) × IsFirstUndefined tables.func.now uses it × IsFound tables.func.now tables.flow.now found it

abbrev pub Finds : Uses → List ValueUse → Option Undefined → Type 0
Finds tables uses result = MatchOption result (All (IsDefined tables.func.now) uses) (FindsFirst tables uses)
