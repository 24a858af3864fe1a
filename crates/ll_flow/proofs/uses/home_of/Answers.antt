use Rattle.std.proofs.Common.{◌≡◌, ◌<◌, length, map, sym, ◌∙◌, Some, rules}
use Rattle.name_table.specs.Names.{place_of}
use Rattle.ll_flow.specs.declared.homes.Home.TheVariants as home
use Rattle.ll_flow.proofs.HomeLaws.{home_found, value_name}
use Rattle.ll_flow.proofs.uses.home_of.Goals as goal

pub bounds-uses-number : goal.bounds-uses-number
bounds-uses-number c =
    let place : place_of c.args.name.now (map value_name c.args.uses.now.values.now) ≡ Some c.in-Some.number = rw c.bytes.ensures at (sym c.number.ensures.number ∙ c.in-Some.is) in
    (home_found c.args.uses.now.func.now c.args.uses.now.values.now c.args.uses.now.homes.now c.args.name.now c.in-Some.number home.Param c.requires.values c.requires.homes place).0

pub offset_bounds-uses-number : goal.offset_bounds-uses-number
offset_bounds-uses-number c =
    let place : place_of c.args.name.now (map value_name c.args.uses.now.values.now) ≡ Some c.in-Some.number = rw c.bytes.ensures at (sym c.number.ensures.number ∙ c.in-Some.is) in
    let low : c.in-Some.number < length c.args.uses.now.homes.now = (home_found c.args.uses.now.func.now c.args.uses.now.values.now c.args.uses.now.homes.now c.args.name.now c.in-Some.number home.Param c.requires.values c.requires.homes place).0 in
    search rules

pub returns-in-Some : goal.returns-in-Some
returns-in-Some c =
    let place : place_of c.args.name.now (map value_name c.args.uses.now.values.now) ≡ Some c.in-Some.number = rw c.bytes.ensures at (sym c.number.ensures.number ∙ c.in-Some.is) in
    (home_found c.args.uses.now.func.now c.args.uses.now.values.now c.args.uses.now.homes.now c.args.name.now c.in-Some.number _ c.requires.values c.requires.homes place).1
