-- Slots that hold the values of names, and what operands read of them.
use Rattle.std.proofs.Common.{◌≡◌, ◌⊎◌, inl, inr, ◌<◌, ◌≤◌, ℕ, List, [], ◌∷◌, ◌++◌, length, map, Bool, true, false, eqb, get_or, set, Option, Some, None, option_map, refl, sym, ◌∙◌, ap, subst, arith}
use Rattle.std.specs.Prelude.{Contains}
use Rattle.std.proofs.lemmas.Bool.{eqb-true, eqb-false}
use Rattle.std.proofs.lemmas.List.{length-map, length-set, get_or-set_same, get_or-set_other}
use Rattle.std.proofs.lemmas.List.Elements.{Contains-append_cases}
use Rattle.ll_tree.specs.declared.func.Func.{Func}
use Rattle.ll_tree.specs.declared.block.Operand.{Operand}
use Rattle.ll_tree.specs.declared.block.Operand.TheVariants as operand
use Rattle.ll_rules.specs.Items.{values_of}
use Rattle.name_table.specs.Names.{place_of}
use Rattle.ll_links.specs.declared.link.Source.{Source}
use Rattle.ll_links.specs.declared.link.Source.TheVariants as source
use Rattle.ll_links.specs.Links.{value_id, number_of, value_source}
use Rattle.ll_flow.proofs.PlaceLaws.{no_item, cons_cases, absent, found_at}
use Rattle.ir_meaning.specs.declared.value.Val.{Val}
use Rattle.ir_meaning.specs.declared.value.Val.TheVariants.{Poison}
use Rattle.ir_runs.specs.Values.{Vals, operand_value}
use Rattle.ir_runs.proofs.NamesLaws.{value_name}
use Rattle.ir_runner.specs.Code.{slot_of, known, source_code}
use Rattle.ir_runner.specs.Slots.{slot_value, IsThere}

abbrev pub names : Func → List (List ℕ)
names func = map value_name (values_of func)

-- the slot of a name's value
abbrev pub slot : Func → List ℕ → ℕ
slot func name = slot_of (number_of (values_of func) name)

-- ---- a name by its place

place_found : (name : List ℕ) (all : List (List ℕ)) → Contains all name → (place : ℕ) × (place_of name all ≡ Some place)
place_found name all there = by_place (place_of name all) refl
  where
    by_place : (found : Option ℕ) → place_of name all ≡ found → (place : ℕ) × (place_of name all ≡ Some place)
    by_place None is = absurd (absent name all is there)
    by_place (Some place) is = (place, is)

-- a name's slot is its place among the values
pub record IsPlaced (func : Func) (name : List ℕ) : Type 0 where
  pub found : place_of name (names func) ≡ Some (slot func name)
  pub within : slot func name < length (values_of func)
  pub named : get_or (names func) (slot func name) [] ≡ name

pub placed : (func : Func) (name : List ℕ) → Contains (names func) name → IsPlaced func name
placed func name there =
    let found = place_found name (names func) there in
    let at : slot func name ≡ found.0 = ap (λ (place : Option ℕ). slot_of (option_map value_id place)) found.1 in
    let is : place_of name (names func) ≡ Some (slot func name) = found.1 ∙ ap Some (sym at) in
    let low = found_at name (names func) (slot func name) is in
    record { found = is; within = omega (arith, low.0, length-map (values_of func) value_name); named = low.1 }

pub one_slot : (func : Func) (a b : List ℕ) → Contains (names func) a → Contains (names func) b → slot func a ≡ slot func b → a ≡ b
one_slot func a b in_a in_b same =
    sym (placed func a in_a).named ∙ ap (λ (place : ℕ). get_or (names func) place []) same ∙ (placed func b in_b).named

-- ---- what the slots hold

-- Each of the names is a value's, and its slot holds what the map has.
pub record Holds (func : Func) (vals : Vals) (slots : List Val) (given : List (List ℕ)) : Type 0 where
  pub room : length (values_of func) ≤ length slots
  pub named : (name : List ℕ) → Contains given name → Contains (names func) name
  pub has : (name : List ℕ) → Contains given name → vals name ≡ Some (get_or slots (slot func name) Poison)

-- a value more
pub holds_more : (func : Func) (vals : Vals) (slots : List Val) (given : List (List ℕ)) → Holds func vals slots given → (name : List ℕ) → Contains (names func) name → (val : Val) → vals name ≡ Some val → Holds func vals (set slots (slot func name) val) (given ++ name ∷ [])
holds_more func vals slots given holds name there val is = record {
  room = omega (arith, holds.room, length-set slots (slot func name) val);
  named = λ other among. named other (Contains-append_cases given (name ∷ []) other among);
  has = λ other among. by_cases other (Contains-append_cases given (name ∷ []) other among);
}
  where
    within : slot func name < length slots
    within = omega (arith, holds.room, (placed func name there).within)

    own : (other : List ℕ) → (name ≡ other) ⊎ Contains [] other → name ≡ other
    own other (inl same) = same
    own other (inr none) = absurd (no_item other none)

    named : (other : List ℕ) → Contains given other ⊎ Contains (name ∷ []) other → Contains (names func) other
    named other (inl earlier) = holds.named other earlier
    named other (inr last) = subst (λ (n : List ℕ). Contains (names func) n) (own other (cons_cases name [] other last)) there

    here : vals name ≡ Some (get_or (set slots (slot func name) val) (slot func name) Poison)
    here = is ∙ ap Some (sym (get_or-set_same slots (slot func name) val Poison within))

    by_test : (other : List ℕ) → Contains given other → (b : Bool) → eqb (slot func other) (slot func name) ≡ b → vals other ≡ Some (get_or (set slots (slot func name) val) (slot func other) Poison)
    by_test other earlier true same =
        let name_is : name ≡ other = sym (one_slot func other name (holds.named other earlier) there (eqb-true (slot func other) (slot func name) same)) in
        subst (λ (n : List ℕ). vals n ≡ Some (get_or (set slots (slot func name) val) (slot func n) Poison)) name_is here
    by_test other earlier false apart =
        holds.has other earlier ∙ ap Some (sym (get_or-set_other slots (slot func name) (slot func other) val Poison (eqb-false (slot func other) (slot func name) apart)))

    by_cases : (other : List ℕ) → Contains given other ⊎ Contains (name ∷ []) other → vals other ≡ Some (get_or (set slots (slot func name) val) (slot func other) Poison)
    by_cases other (inl earlier) = by_test other earlier (eqb (slot func other) (slot func name)) refl
    by_cases other (inr last) = subst (λ (n : List ℕ). vals n ≡ Some (get_or (set slots (slot func name) val) (slot func n) Poison)) (own other (cons_cases name [] other last)) here

-- the same names in another list
pub holds_same : (func : Func) (vals : Vals) (slots : List Val) (given other : List (List ℕ)) → given ≡ other → Holds func vals slots given → Holds func vals slots other
holds_same func vals slots given other same holds = subst (Holds func vals slots) same holds

-- ---- what operands read

-- The operand is there and has the value that the map gives it.
pub record Reads (func : Func) (vals : Vals) (slots : List Val) (value : Operand) : Type 0 where
  pub there : IsThere slots (source_code func value)
  pub is : operand_value vals value ≡ Some (slot_value slots (source_code func value))

pub reads : (func : Func) (vals : Vals) (slots : List Val) (given : List (List ℕ)) → Holds func vals slots given → (value : Operand) → ((name : List ℕ) → value ≡ operand.Name name → Contains given name) → Reads func vals slots value
reads func vals slots given holds (operand.Name name) among =
    let own : Contains given name = among name refl in
    let place = placed func name (holds.named name own) in
    let code : source.Value (value_id (slot func name)) ≡ source_code func (operand.Name name) = ap (λ (found : Option ℕ). known (value_source (option_map value_id found))) (sym place.found) in
    let low : slot func name < length slots = omega (arith, holds.room, place.within) in
    record {
      there = subst (IsThere slots) code low;
      is = holds.has name own ∙ ap (λ (from : Source). Some (slot_value slots from)) code;
    }
reads func vals slots given holds (operand.Const n) among = record { there = tt; is = refl }
reads func vals slots given holds operand.Poison among = record { there = tt; is = refl }
