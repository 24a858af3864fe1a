-- Uses of values, and on which paths a value is given before it is used.
use Rattle.std.specs.Prelude.{◌≡◌, ◌⊎◌, ◌<◌, ℕ, List, [], ◌∷◌, ◌++◌, length, All, Contains}
use Rattle.std.specs.List.{flat_map}
use Rattle.ll_tree.specs.declared.func.Func.{Func}
use Rattle.ll_tree.specs.declared.block.PhiEntry.{PhiEntry}
use Rattle.ll_tree.specs.declared.block.Operand.{Operand}
use Rattle.ll_tree.specs.declared.block.Operand.TheVariants as operand
use Rattle.ll_rules.specs.Items.{Item, OfPhi, OfInstr, OfEnd, Part, Use, Goal, op_parts, end_parts}
use Rattle.ll_items.specs.Sites.{Site, site_of, sites_of}
use Rattle.ll_flow.specs.declared.homes.Home.{Home}
use Rattle.ll_flow.specs.declared.homes.Home.TheVariants as home
use Rattle.ll_flow.specs.declared.uses.Moment.{Moment}
use Rattle.ll_flow.specs.declared.uses.Moment.TheVariants.{At, Leaving}
use Rattle.ll_flow.specs.declared.not_defined.NotDefined.{NotDefined}
use Rattle.ll_flow.specs.Homes.{homes_of}
use Rattle.ll_flow.specs.Paths.{label_of, IsPathTo}

-- an item names a value, and the block with the label uses it at that moment
pub record ValueUse : Type 0 where
  pub site : Site
  pub name : List ℕ
  pub block : List ℕ
  pub moment : Moment

abbrev pub operand_uses : Site → List ℕ → Moment → Operand → List ValueUse
operand_uses site block moment (operand.Name name) = (record { site = site; name = name; block = block; moment = moment }) ∷ []
operand_uses site block moment (operand.Const number) = []
operand_uses site block moment operand.Poison = []

abbrev pub part_uses : Site → List ℕ → Moment → Part → List ValueUse
part_uses site block moment (Use operand width) = operand_uses site block moment operand
part_uses site block moment (Goal label) = []

-- an entry of a phi uses its value where its block is left
abbrev pub entry_uses : Site → PhiEntry → List ValueUse
entry_uses site entry = operand_uses site entry.from Leaving entry.value

abbrev pub item_uses : Func → Site → Item → List ValueUse
item_uses func site (OfPhi phi) = flat_map (entry_uses site) phi.entries
item_uses func site (OfInstr instr) = flat_map (part_uses site (label_of func site.block) (At site.item)) (op_parts instr.op)
item_uses func site (OfEnd end) = flat_map (part_uses site (label_of func site.block) (At site.item)) (end_parts end)

abbrev pub site_uses : Func → Site → List ValueUse
site_uses func site = item_uses func site site.what

-- all uses, in the order of the text
abbrev pub uses_of : Func → List ValueUse
uses_of func = flat_map (site_uses func) (sites_of func)

-- the item with so many before it comes before that moment in its block
abbrev pub ComesBefore : ℕ → Moment → Type 0
ComesBefore item (At other) = item < other
ComesBefore item Leaving = Unit {0}

-- The item of the block with the label stands on the path before the moment, which is in the path's last block.
abbrev pub StandsOn : List ℕ → ℕ → Moment → List (List ℕ) → Type 0
StandsOn label item moment [] = ⊥
StandsOn label item moment (last ∷ []) = (last ≡ label) × ComesBefore item moment
StandsOn label item moment (first ∷ next ∷ rest) = (first ≡ label) ⊎ StandsOn label item moment (next ∷ rest)

-- a parameter is given before each path begins
abbrev pub IsGiven : Func → Home → Moment → List (List ℕ) → Type 0
IsGiven func home.Param moment path = Unit {0}
IsGiven func (home.At block item) moment path = StandsOn (label_of func block) item moment path

-- a definition of the name stands on the path before the use
abbrev pub IsDefinedOn : Func → ValueUse → List (List ℕ) → Type 0
IsDefinedOn func it path = (home : Home) × Contains (homes_of func) (it.name, home) × IsGiven func home it.moment path

-- the name is defined on every path to the use
abbrev pub IsDefined : Func → ValueUse → Type 0
IsDefined func it = (path : List (List ℕ)) → IsPathTo func path it.block → IsDefinedOn func it path

-- this is a path to the use on which it isn't
abbrev pub LeavesOut : Func → ValueUse → List (List ℕ) → Type 0
LeavesOut func it path = IsPathTo func path it.block × ¬ IsDefinedOn func it path

-- a use whose name isn't defined on every path to it, and none before it is such
pub record IsFirstUndefined (func : Func) (uses : List ValueUse) (it : ValueUse) : Type 0 where
  pub before : List ValueUse
  pub after : List ValueUse
  pub uses_are : uses ≡ before ++ it ∷ after
  pub undefined : ¬ IsDefined func it
  pub first : All (IsDefined func) before

abbrev pub AllDefined : Func → Type 0
AllDefined func = All (IsDefined func) (uses_of func)

-- the first such use, by its item, its name and a path to it
pub record IsFault (func : Func) (found : NotDefined) : Type 0 where
  pub it : ValueUse
  pub first : IsFirstUndefined func (uses_of func) it
  pub site : site_of found.site ≡ it.site
  pub within : found.site.block < length func.blocks
  pub name : found.name ≡ it.name
  pub path : LeavesOut func it found.path
