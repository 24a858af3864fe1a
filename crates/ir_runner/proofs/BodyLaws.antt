-- The instructions of a block, one after another.
use Rattle.std.proofs.Common.{◌≡◌, ◌⊎◌, inl, inr, ◌&&◌, ◌<◌, ℕ, List, [], ◌∷◌, ◌++◌, length, map, Bool, true, false, cond, set, Option, Some, None, option_map, option_to_list, refl, sym, ◌∙◌, ap, subst, arith, append_assoc, append-nil}
use Rattle.std.specs.Prelude.{Contains, flat_map}
use Rattle.std.specs.List.{AllByRecursion, list_all}
use Rattle.std.proofs.lemmas.Bool.{false≢true, not-false}
use Rattle.std.proofs.lemmas.List.Concat.{flat_map-append}
use Rattle.std.proofs.lemmas.List.Elements.{All-contains, Contains-append_right}
use Rattle.ll_tree.specs.declared.func.Func.{Func}
use Rattle.ll_tree.specs.declared.block.Block.{Block}
use Rattle.ll_tree.specs.declared.block.Instr.{Instr}
use Rattle.ll_tree.specs.declared.block.Operand.{Operand}
use Rattle.ll_tree.specs.Formed.{IsFormedInstr}
use Rattle.ll_rules.specs.Items.{Item, OfInstr, OfEnd, items_of, Use, op_parts, result_width, values_of}
use Rattle.ll_rules.specs.Arithmetic.{is_linear, has_divisor}
use Rattle.ll_items.specs.Sites.{Site, sites_of}
use Rattle.ll_item_rules.specs.Constants.{is_not_linear, has_bad_divisor}
use Rattle.ll_links.specs.declared.link.Source.{Source}
use Rattle.ll_links.specs.Links.{named_result}
use Rattle.ll_links.specs.Links as links
use Rattle.ll_flow.specs.Paths.{label_of, IsPathTo}
use Rattle.ll_verifier.specs.Rules.{Rules}
use Rattle.ir_meaning.specs.declared.value.Val.{Val}
use Rattle.ir_runs.specs.Values.{Vals, op_value}
use Rattle.ir_runs.specs.Walk.{IsGiven, IsValued, is_assumed, block_names, names_on}
use Rattle.ir_runs.specs.Fit.{AllFit}
use Rattle.ir_runs.proofs.MemberLaws.{in_here, in_there, in_flat}
use Rattle.ir_runs.proofs.NamesLaws.{item_names, names_in, param_names, given_here}
use Rattle.ir_runs.proofs.SiteLaws.{site_at}
use Rattle.ir_runs.proofs.UsedLaws.{block_label, AreWithin, item_known}
use Rattle.ir_runs.proofs.EntryLaws.{item_site}
use Rattle.ir_runs.proofs.BlockLaws.{all_mid}
use Rattle.ir_runs.proofs.WidthLaws.{operand_fits, values_named}
use Rattle.ir_runner.specs.declared.code.Step.{Step}
use Rattle.ir_runner.specs.declared.code.Step.TheVariants.{Give, Assume}
use Rattle.ir_runner.specs.Code.{slot_of, step_code}
use Rattle.ir_runner.specs.declared.code.StepOp.{StepOp}
use Rattle.ir_runner.specs.Slots.{op_result, CanCompute, IsThere, slots_after, CanRun}
use Rattle.ir_runner.specs.Slots.{holds as holds_now}
use Rattle.ir_runner.proofs.SlotLaws.{names, slot, placed, Holds, holds_more, holds_same, reads}
use Rattle.ir_runner.proofs.OpLaws.{AllRead, Gives, Assumes, op_runs}

-- ---- steps, one at a time

run_none : (slots : List Val) → CanRun [] slots
unfolding CanRun
run_none slots = tt

after_none : (slots : List Val) → slots_after [] slots ≡ Some slots
unfolding slots_after
after_none slots = refl

run_give : (op : StepOp) (to : ℕ) (steps : List Step) (slots : List Val) → to < length slots → CanCompute slots op → CanRun steps (set slots to (op_result slots op)) → CanRun (Give op to ∷ steps) slots
unfolding CanRun
run_give op to steps slots low can rest = (low, can, rest)

after_give : (op : StepOp) (to : ℕ) (steps : List Step) (slots : List Val) → slots_after (Give op to ∷ steps) slots ≡ slots_after steps (set slots to (op_result slots op))
unfolding slots_after
after_give op to steps slots = refl

run_assume : (from : Source) (steps : List Step) (slots : List Val) → IsThere slots from → (holds_now slots from ≡ true → CanRun steps slots) → CanRun (Assume from ∷ steps) slots
unfolding CanRun
run_assume from steps slots there rest = (there, rest)

after_true : (from : Source) (steps : List Step) (slots : List Val) → holds_now slots from ≡ true → slots_after (Assume from ∷ steps) slots ≡ slots_after steps slots
unfolding slots_after
after_true from steps slots is = ap (λ (b : Bool). cond b (slots_after steps slots) None) is

after_false : (from : Source) (steps : List Step) (slots : List Val) → holds_now slots from ≡ false → slots_after (Assume from ∷ steps) slots ≡ None
unfolding slots_after
after_false from steps slots is = ap (λ (b : Bool). cond b (slots_after steps slots) None) is

-- ---- names of items

pub names_more : (func : Func) (done : List Block) (front : List Item) (item : Item) → (names_on func done ++ names_in front) ++ item_names item ≡ names_on func done ++ names_in (front ++ item ∷ [])
names_more func done front item =
    append_assoc (names_on func done) (names_in front) (item_names item)
    ∙ ap (λ (given : List (List ℕ)). names_on func done ++ given) (sym (flat_map-append item_names front (item ∷ []) ∙ ap (λ (given : List (List ℕ)). names_in front ++ given) (append-nil (item_names item))))

-- the result of an item is a value's name
pub result_named : (func : Func) (rules : Rules func) (block : Block) → Contains func.blocks block → (front rest : List Item) (item : Item) → items_of block ≡ front ++ item ∷ rest → (name : List ℕ) → Contains (item_names item) name → Contains (names func) name
result_named func rules block there front rest item items name given =
    subst (λ (all : List (List ℕ)). Contains all name) (sym (values_named func))
    (Contains-append_right (param_names func) (flat_map block_names func.blocks) name
    (in_flat block_names func.blocks block name there (given_here func rules.names block there front rest item items name given)))

abbrev pub result_slot : Func → Instr → ℕ
result_slot func instr = slot_of (links.result_of (values_of func) (OfInstr instr))

abbrev pub assumed : Vals → Instr → Bool
assumed vals instr = is_assumed vals instr.op

module _ (func : Func) (rules : Rules func) (vals : Vals) (fits : AllFit func vals) (done : List Block) (within : AreWithin func rules done) (block : Block) (there : Contains func.blocks block)
    (path : IsPathTo func (map block_label done ++ block.label ∷ []) block.label) (before : Option (List ℕ)) (valued : AllByRecursion (IsValued vals before) (items_of block)) where
  -- what is known where an item comes
  abbrev pub At : List Item → List (List ℕ)
  At front = names_on func done ++ names_in front

  -- What comes of the instructions from one on.
  abbrev pub After : List Instr → Option (List Val) → Type 0
  After rest None = list_all (assumed vals) rest ≡ false
  After rest (Some slots) = (list_all (assumed vals) rest ≡ true) × Holds func vals slots (At (items_of block))

  pub record Runs (rest : List Instr) (slots : List Val) : Type 0 where
    pub can : CanRun (map (step_code func) rest) slots
    pub after : After rest (slots_after (map (step_code func) rest) slots)

  module _ (front rest : List Item) (instr : Instr) (items : items_of block ≡ front ++ OfInstr instr ∷ rest) where
    place : (place : ℕ) × Contains (sites_of func) (site_at place (length front) (OfInstr instr)) × (label_of func place ≡ block.label)
    place = item_site func rules block there front rest (OfInstr instr) items

    operands_read : (slots : List Val) → Holds func vals slots (At front) → AllRead func vals slots (op_parts instr.op)
    operands_read slots holds value width used formed =
        let read = reads func vals slots (At front) holds value
        (λ name is. item_known func rules done within block there front rest (OfInstr instr) items (op_parts instr.op) (λ site. refl) path name width (subst (λ (o : Operand). Contains (op_parts instr.op) (Use o width)) is used)) in
        record {
          reads = read;
          fits = operand_fits func rules vals (site_at place.0 (length front) (OfInstr instr)) place.1 value width used formed (λ name is w val given is_val. fits name w val given is_val) _ read.is;
        }

    linear : is_linear instr.op ≡ true
    linear = not-false (is_linear instr.op) (All-contains (λ (site : Site). is_not_linear site.what ≡ false) (sites_of func) (site_at place.0 (length front) (OfInstr instr)) rules.linear place.1)

    divisor : has_divisor instr.op ≡ true
    divisor = not-false (has_divisor instr.op) (All-contains (λ (site : Site). has_bad_divisor site.what ≡ false) (sites_of func) (site_at place.0 (length front) (OfInstr instr)) rules.divisors place.1)

    pub one_runs : IsFormedInstr instr → (slots : List Val) → Holds func vals slots (At front) → Gives func vals slots instr.op (result_slot func instr) (step_code func instr) ⊎ Assumes func vals slots instr.op (step_code func instr)
    one_runs formed slots holds = op_runs func vals slots instr.op formed.1 linear divisor (operands_read slots holds) (result_slot func instr)

    named_in : Contains (item_names (OfInstr instr)) instr.name → Contains (names func) instr.name
    named_in given = result_named func rules block there front rest (OfInstr instr) items instr.name given

    given_value : (width : ℕ) → result_width instr.op ≡ Some width → vals instr.name ≡ op_value vals instr.op
    given_value width wide =
        subst (λ (result : Option (List ℕ)). IsGiven vals result (op_value vals instr.op)) (ap (option_map (λ (w : ℕ). instr.name)) wide)
        (all_mid (IsValued vals before) front rest (OfInstr instr) (subst (AllByRecursion (IsValued vals before)) items valued))

    own_name : (width : ℕ) → result_width instr.op ≡ Some width → item_names (OfInstr instr) ≡ instr.name ∷ []
    own_name width wide = ap (λ (w : Option ℕ). option_to_list (option_map (λ (n : ℕ). instr.name) w)) wide

    no_name : result_width instr.op ≡ None → item_names (OfInstr instr) ≡ []
    no_name none = ap (λ (w : Option ℕ). option_to_list (option_map (λ (n : ℕ). instr.name) w)) none

    own_slot : (width : ℕ) → result_width instr.op ≡ Some width → result_slot func instr ≡ slot func instr.name
    own_slot width wide = ap (λ (w : Option ℕ). slot_of (named_result (values_of func) instr.name w)) wide

    -- behind a result
    gives_holds : (slots : List Val) → Holds func vals slots (At front) → (it : Gives func vals slots instr.op (result_slot func instr) (step_code func instr)) → Holds func vals (set slots (result_slot func instr) (op_result slots it.op)) (At (front ++ OfInstr instr ∷ []))
    gives_holds slots holds it =
        let own = own_name it.width it.wide in
        let in_names : Contains (names func) instr.name = named_in (subst (λ (all : List (List ℕ)). Contains all instr.name) (sym own) (in_here instr.name [])) in
        let more = holds_more func vals slots (At front) holds instr.name in_names (op_result slots it.op) (given_value it.width it.wide ∙ it.value) in
        holds_same func vals (set slots (result_slot func instr) (op_result slots it.op)) (At front ++ instr.name ∷ []) (At (front ++ OfInstr instr ∷ []))
        (ap (λ (own : List (List ℕ)). At front ++ own) (sym own) ∙ names_more func done front (OfInstr instr))
        (subst (λ (to : ℕ). Holds func vals (set slots to (op_result slots it.op)) (At front ++ instr.name ∷ [])) (sym (own_slot it.width it.wide)) more)

    gives_low : (slots : List Val) → Holds func vals slots (At front) → (it : Gives func vals slots instr.op (result_slot func instr) (step_code func instr)) → result_slot func instr < length slots
    gives_low slots holds it =
        let own = own_name it.width it.wide in
        let in_names : Contains (names func) instr.name = named_in (subst (λ (all : List (List ℕ)). Contains all instr.name) (sym own) (in_here instr.name [])) in
        let low = (placed func instr.name in_names).within in
        let same = own_slot it.width it.wide in
        let room = holds.room in
        omega (arith, low, same, room)

    -- behind an assume
    assumes_holds : (slots : List Val) → Holds func vals slots (At front) → result_width instr.op ≡ None → Holds func vals slots (At (front ++ OfInstr instr ∷ []))
    assumes_holds slots holds none =
        holds_same func vals slots (At front) (At (front ++ OfInstr instr ∷ []))
        (sym (append-nil (At front)) ∙ ap (λ (own : List (List ℕ)). At front ++ own) (sym (no_name none)) ∙ names_more func done front (OfInstr instr)) holds

  after_more : (rest : List Instr) (instr : Instr) (found : Option (List Val)) → assumed vals instr ≡ true → After rest found → After (instr ∷ rest) found
  after_more rest instr None is none = ap (λ (b : Bool). b && list_all (assumed vals) rest) is ∙ none
  after_more rest instr (Some slots) is (all, holds) = (ap (λ (b : Bool). b && list_all (assumed vals) rest) is ∙ all, holds)

  pub body_runs : (front : List Item) (rest : List Instr) → items_of block ≡ front ++ (map OfInstr rest ++ OfEnd block.end ∷ []) → ((instr : Instr) → Contains rest instr → IsFormedInstr instr) → (slots : List Val) → Holds func vals slots (At front) → Runs rest slots
  body_runs front [] items formed slots holds =
      let same : At front ≡ At (items_of block) =
      sym (append-nil (At front)) ∙ names_more func done front (OfEnd block.end) ∙ ap At (sym items) in
      record {
        can = run_none slots;
        after = subst (After []) (sym (after_none slots)) (refl, holds_same func vals slots (At front) (At (items_of block)) same holds);
      }
  body_runs front (instr ∷ rest) items formed slots holds =
      by_kind (one_runs front (map OfInstr rest ++ OfEnd block.end ∷ []) instr items (formed instr (in_here instr rest)) slots holds)
      (body_runs (front ++ OfInstr instr ∷ []) rest (items ∙ sym (append_assoc front (OfInstr instr ∷ []) (map OfInstr rest ++ OfEnd block.end ∷ []))) (λ other among. formed other (in_there instr other rest among)))
    where
      by_test : (it : Assumes func vals slots instr.op (step_code func instr)) → (b : Bool) → holds_now slots it.cond ≡ b → ((next : List Val) → Holds func vals next (At (front ++ OfInstr instr ∷ [])) → Runs rest next) → Runs (instr ∷ rest) slots
      by_test it true yes_it more =
          let later = more slots (assumes_holds front (map OfInstr rest ++ OfEnd block.end ∷ []) instr items slots holds it.none) in
          record {
            can = subst (λ (step : Step). CanRun (step ∷ map (step_code func) rest) slots) (sym it.is) (run_assume it.cond (map (step_code func) rest) slots it.there (λ is. later.can));
            after = subst (After (instr ∷ rest)) (sym (ap (λ (step : Step). slots_after (step ∷ map (step_code func) rest) slots) it.is ∙ after_true it.cond (map (step_code func) rest) slots yes_it))
                (after_more rest instr (slots_after (map (step_code func) rest) slots) (it.assumed ∙ yes_it) later.after);
          }
      by_test it false not_it more = record {
        can = subst (λ (step : Step). CanRun (step ∷ map (step_code func) rest) slots) (sym it.is) (run_assume it.cond (map (step_code func) rest) slots it.there (λ is. absurd (false≢true (sym not_it ∙ is))));
        after = subst (After (instr ∷ rest)) (sym (ap (λ (step : Step). slots_after (step ∷ map (step_code func) rest) slots) it.is ∙ after_false it.cond (map (step_code func) rest) slots not_it))
            (ap (λ (b : Bool). b && list_all (assumed vals) rest) (it.assumed ∙ not_it));
      }

      by_kind : Gives func vals slots instr.op (result_slot func instr) (step_code func instr) ⊎ Assumes func vals slots instr.op (step_code func instr) → ((next : List Val) → Holds func vals next (At (front ++ OfInstr instr ∷ [])) → Runs rest next) → Runs (instr ∷ rest) slots
      by_kind (inl it) more =
          let next : List Val = set slots (result_slot func instr) (op_result slots it.op) in
          let later = more next (gives_holds front (map OfInstr rest ++ OfEnd block.end ∷ []) instr items slots holds it) in
          record {
            can = subst (λ (step : Step). CanRun (step ∷ map (step_code func) rest) slots) (sym it.is)
                (run_give it.op (result_slot func instr) (map (step_code func) rest) slots (gives_low front (map OfInstr rest ++ OfEnd block.end ∷ []) instr items slots holds it) it.can later.can);
            after = subst (After (instr ∷ rest)) (sym (ap (λ (step : Step). slots_after (step ∷ map (step_code func) rest) slots) it.is ∙ after_give it.op (result_slot func instr) (map (step_code func) rest) slots))
                (after_more rest instr (slots_after (map (step_code func) rest) next) it.assumed later.after);
          }
      by_kind (inr it) more = by_test it (holds_now slots it.cond) refl more
