-- Where each value is given.
use Rattle.std.specs.Prelude.{ℕ, List, [], ◌∷◌, ◌++◌, map, Option, Some, None}
use Rattle.std.specs.List.{flat_map}
use Rattle.ll_tree.specs.declared.func.Func.{Func}
use Rattle.ll_rules.specs.Items.{Item, OfPhi, OfInstr, OfEnd, result_width}
use Rattle.ll_items.specs.Sites.{Site, sites_of}
use Rattle.ll_flow.specs.declared.homes.Home.{Home}
use Rattle.ll_flow.specs.declared.homes.Home.TheVariants as home

-- a result's name and where it is given, nothing for an assume
abbrev pub result_home : List ℕ → Home → Option ℕ → List (List ℕ × Home)
result_home name home None = []
result_home name home (Some width) = (name, home) ∷ []

abbrev pub item_homes : Home → Item → List (List ℕ × Home)
item_homes home (OfPhi phi) = (phi.name, home) ∷ []
item_homes home (OfInstr instr) = result_home instr.name home (result_width instr.op)
item_homes home (OfEnd end) = []

abbrev pub site_homes : Site → List (List ℕ × Home)
site_homes site = item_homes (home.At site.block site.item) site.what

-- Each value's name and where it is given, in the order of their numbers.
abbrev pub homes_of : Func → List (List ℕ × Home)
homes_of func = map (λ param. (param.name, home.Param)) func.params ++ flat_map site_homes (sites_of func)
