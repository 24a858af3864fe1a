-- Where values stand: what is kept at one name's number is found at that name alone.
use Rattle.std.proofs.Common.{◌≡◌, ◌≢◌, ◌<◌, ℕ, List, [], length, get_or, set, map, Option, Some, None, option_map, refl, sym, ◌∙◌, ap, arith}
use Rattle.std.specs.Prelude.{Contains}
use Rattle.std.specs.Option.{unwrap_or}
use Rattle.std.proofs.Math.ListN.{length-set}
use Rattle.std.proofs.lemmas.List.{get_or-set_same, get_or-set_other, length-map}
use Rattle.name_table.specs.Names.{place_of}
use Rattle.ll_tree.specs.declared.func.Func.{Func}
use Rattle.ll_rules.specs.Items.{values_of}
use Rattle.ll_flow.proofs.PlaceLaws.{found_at, absent}
use Rattle.ll_links.specs.declared.link.Source.TheVariants as source
use Rattle.ll_links.specs.declared.link.ValueId.{ValueId}
use Rattle.ll_links.specs.Links.{number_of, value_id, value_source}
use Rattle.ll_verifier.specs.Sound.{SoundFunc}
use Rattle.ir_runs.proofs.NamesLaws.{value_name}
use Rattle.wrap_rows.specs.declared.vars.ValueVars.{ValueVars}
use Rattle.path_encoding.specs.declared.spots.PathSpots.{PathSpots}
use Rattle.path_encoding.specs.Spots.{value_vars, source_vars}
use Rattle.value_pieces.specs.Pieces.{name_vars}
use Rattle.piece_list.specs.Pieces.{put_vars}

abbrev pub value_names : Func → List (List ℕ)
value_names func = map value_name (values_of func)

-- the variables of a name by its place
abbrev pub vars_at : List ValueVars → Option ℕ → ValueVars
vars_at values None = value_vars 0 1
vars_at values (Some place) = get_or values place (value_vars 0 0)

pub put_size : (values : List ValueVars) (id : Option ValueId) (vars : ValueVars) → length (put_vars values id vars) ≡ length values
put_size values None vars = refl
put_size values (Some id) vars = length-set values id.0 vars

module _ (it : SoundFunc) where
  by_place : (spots : PathSpots) (found : Option ℕ) → source_vars spots (unwrap_or (value_source (option_map value_id found)) source.Poison) ≡ vars_at spots.values.items found
  by_place spots None = refl
  by_place spots (Some place) = refl

  pub name_is : (spots : PathSpots) (name : List ℕ) → name_vars it spots name ≡ vars_at spots.values.items (place_of name (value_names it.func))
  name_is spots name = by_place spots (place_of name (value_names it.func))

  pub name_at : (spots : PathSpots) (name : List ℕ) (place : ℕ) → place_of name (value_names it.func) ≡ Some place → name_vars it spots name ≡ get_or spots.values.items place (value_vars 0 0)
  name_at spots name place is = name_is spots name ∙ ap (vars_at spots.values.items) is

  -- a value's name has a place
  pub place_there : (name : List ℕ) → Contains (value_names it.func) name → (place : ℕ) × (place_of name (value_names it.func) ≡ Some place) × (place < length (values_of it.func))
  place_there name there = by_found (place_of name (value_names it.func)) refl
    where
      by_found : (found : Option ℕ) → place_of name (value_names it.func) ≡ found → (place : ℕ) × (place_of name (value_names it.func) ≡ Some place) × (place < length (values_of it.func))
      by_found None is = absurd (absent name (value_names it.func) is there)
      by_found (Some place) is = (place, is, omega (arith, (found_at name (value_names it.func) place is).0, length-map (values_of it.func) value_name))

  module _ (spots next : PathSpots) (name : List ℕ) (vars : ValueVars) (place : ℕ) (is : place_of name (value_names it.func) ≡ Some place) (put : next.values.items ≡ put_vars spots.values.items (number_of (values_of it.func) name) vars) where
    put_there : next.values.items ≡ set spots.values.items place vars
    put_there = put ∙ ap (λ (found : Option ℕ). put_vars spots.values.items (option_map value_id found) vars) is

    -- the name itself
    pub put_own : place < length spots.values.items → name_vars it next name ≡ vars
    put_own low =
        name_at next name place is ∙ ap (λ (values : List ValueVars). get_or values place (value_vars 0 0)) put_there
        ∙ get_or-set_same spots.values.items place vars (value_vars 0 0) low

    -- and any other
    pub put_other : (other : List ℕ) → (other ≡ name → ⊥) → name_vars it next other ≡ name_vars it spots other
    put_other other apart = name_is next other ∙ by_found (place_of other (value_names it.func)) refl ∙ sym (name_is spots other)
      where
        by_found : (found : Option ℕ) → place_of other (value_names it.func) ≡ found → vars_at next.values.items found ≡ vars_at spots.values.items found
        by_found None other_is = refl
        by_found (Some at) other_is =
            let differ : at ≢ place = λ same.
            apart (sym (found_at other (value_names it.func) at other_is).1 ∙ ap (λ (n : ℕ). get_or (value_names it.func) n []) same ∙ (found_at name (value_names it.func) place is).1) in
            ap (λ (values : List ValueVars). get_or values at (value_vars 0 0)) put_there ∙ get_or-set_other spots.values.items place at vars (value_vars 0 0) differ
