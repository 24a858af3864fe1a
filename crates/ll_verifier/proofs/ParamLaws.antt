-- Parameters are the first values.
use Rattle.std.proofs.Common.{◌≡◌, ◌<◌, ℕ, List, [], length, get_or, map, Some, refl, sym, ◌∙◌, ap, arith}
use Rattle.std.specs.Option.{option_map}
use Rattle.std.specs.List.{flat_map}
use Rattle.std.proofs.lemmas.List.{length-append, length-map, get_or-map, get_or_append_left}
use Rattle.ll_tree.specs.declared.func.Func.{Func}
use Rattle.ll_tree.specs.declared.func.Param.{Param}
use Rattle.ll_rules.specs.Items.{block_values, names_of, values_of}
use Rattle.name_table.specs.Names.{AreDifferent, place_of}
use Rattle.ll_links.specs.Links.{value_id, number_of}
use Rattle.ll_flow.proofs.PlaceLaws.{place_is}
use Rattle.ll_verifier.proofs.NameLaws.{values_differ}

abbrev value_of : Param → List ℕ × ℕ
value_of param = (param.name, param.width)

abbrev name_of : List ℕ × ℕ → List ℕ
name_of value = value.0

pub param_number : (func : Func) → AreDifferent (names_of func) → (place : ℕ) → place < length func.params → (other : Param) → number_of (values_of func) (get_or func.params place other).name ≡ Some (value_id place)
param_number func different place within other =
    let few : length (map value_of func.params) ≡ length func.params = length-map func.params value_of in
    let all = length-append (map value_of func.params) (flat_map block_values func.blocks) in
    let names = length-map (values_of func) name_of in
    let there : get_or (map name_of (values_of func)) place [] ≡ (get_or func.params place other).name =
    get_or-map name_of (values_of func) place (value_of other) [] (omega (arith, within, few, all))
    ∙ ap name_of (get_or_append_left (map value_of func.params) (flat_map block_values func.blocks) (value_of other) place (omega (arith, within, few))
    ∙ get_or-map value_of func.params place other (value_of other) within) in
    ap (option_map value_id)
    (ap (λ (name : List ℕ). place_of name (map name_of (values_of func))) (sym there)
    ∙ place_is (map name_of (values_of func)) (values_differ func (values_of func) refl different) place (omega (arith, within, few, all, names)))
