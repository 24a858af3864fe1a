-- Where a run begins, and what its end answers.
use Rattle.std.proofs.Common.{◌≡◌, ◌⊎◌, inl, inr, ◌<◌, ◌≤◌, ◌+◌, ℕ, zero, suc, List, [], ◌∷◌, ◌++◌, length, map, true, false, ◌||◌, cond, eqb, get_or, drop, Option, Some, None, option_map, refl, sym, ◌∙◌, ap, subst, arith, append-nil}
use Rattle.std.specs.Prelude.{Result, Ok, Err, IsOk, is_ok, Contains, flat_map, sum_by, zip}
use Rattle.std.specs.List.{AllZip, list_all, list_any, last_or}
use Rattle.std.proofs.lemmas.Bool.{false≢true}
use Rattle.std.proofs.lemmas.Slice.Zip.{length-zip, get_or-zip}
use Rattle.std.proofs.lemmas.List.{drop_more, drop_all, get_or-map, length-map, length-append, get_or_append_left}
use Rattle.std.proofs.lemmas.List.Sums.{sum_by-cons}
use Rattle.std.proofs.lemmas.Map.Keys.{IsDistinct-from_apart}
use Rattle.std.proofs.lemmas.List.Elements.{All-cons, All-nil, Contains-append_left}
use Rattle.wx_base.specs.Args.{AreArguments}
use Rattle.ll_tree.specs.declared.func.Func.{Func}
use Rattle.ll_tree.specs.declared.func.Param.{Param}
use Rattle.ll_tree.specs.declared.block.Block.{Block}
use Rattle.ll_tree.specs.declared.block.Phi.{Phi}
use Rattle.ll_tree.specs.declared.block.Instr.{Instr}
use Rattle.ll_rules.specs.Items.{OfPhi, OfInstr, OfEnd, named, result_width, block_values, values_of}
use Rattle.ll_rules.specs.Limits.{count_values}
use Rattle.name_table.specs.Names.{place_of, AreDifferent}
use Rattle.ll_links.specs.declared.link.BlockId.{BlockId}
use Rattle.ll_links.specs.Links.{value_id}
use Rattle.ll_flow.specs.Paths.{label_of}
use Rattle.ll_flow.proofs.PlaceLaws.{cons_cases, no_item, place_is}
use Rattle.ll_verifier.specs.Rules.{Rules}
use Rattle.ir_meaning.specs.declared.value.Val.{Val}
use Rattle.ir_meaning.specs.declared.value.Val.TheVariants.{Poison}
use Rattle.ir_runs.specs.Values.{Vals, ranged}
use Rattle.ir_runs.specs.Walk.{Step, Returns, Fails, has_poison_argument, is_barred, is_assumed, step_of, end_step, block_names, names_on, widths_of}
use Rattle.ir_runs.specs.Costs.{LabelCosts, path_cost}
use Rattle.ir_runs.specs.Answer.{IsAnswer}
use Rattle.ir_runs.specs.declared.ret_val.RetVal.{RetVal}
use Rattle.ir_runs.specs.declared.run_end.RunEnd.TheVariants.{Done, Undefined}
use Rattle.ir_runs.specs.declared.undefined.UndefinedCause.{UndefinedCause}
use Rattle.ir_runs.specs.declared.undefined.UndefinedCause.TheVariants as cause
use Rattle.ir_runs.proofs.MemberLaws.{in_here}
use Rattle.ir_runs.proofs.NamesLaws.{names_in, param_names}
use Rattle.ir_runs.proofs.UsedLaws.{block_label}
use Rattle.ir_runs.proofs.WalkLaws.{Ended, OneEnd, one, visited}
use Rattle.ir_runs.proofs.OperandLaws.{first_arrives}
use Rattle.ir_runs.proofs.WidthLaws.{values_named, without_labels}
use Rattle.ir_runner.specs.Code.{slot_of}
use Rattle.ir_runner.specs.Place.{IsAt}
use Rattle.ir_runner.specs.Start.{taken_as, taken, HasArguments}
use Rattle.ir_runner.proofs.LowerLaws.{items_in}
use Rattle.ir_runner.proofs.SlotLaws.{names, slot, Holds, holds_same}
use Rattle.ir_runner.proofs.PhiLaws.{entry_free}
use Rattle.ir_runner.proofs.TurnLaws.{Stands, at_label, walk_ends}

-- ---- what the end of a run answers

last_push : (before : Option (List ℕ)) (front : List (List ℕ)) (label : List ℕ) → last_or before (front ++ label ∷ []) ≡ Some label
last_push before [] label = refl
last_push before (first ∷ front) label = last_push (Some first) front label

module _ (func : Func) (costs : LabelCosts) (args : List ℕ) where
  pub done_answer : (path : List (List ℕ)) (vals : Vals) (result : RetVal) (cost : ℕ) → Ended func args path vals (Returns result) → cost ≡ path_cost costs path → IsAnswer func costs args path (Done result cost)
  done_answer path vals result cost ended is = ((vals, record { walk = ended.walk; returns = ended.ends }), is)

  pub stuck_answer : (path : List (List ℕ)) (vals : Vals) (why : UndefinedCause) (at : ℕ) → at < length func.blocks → Ended func args path vals (Fails why) → (front : List (List ℕ)) → path ≡ front ++ label_of func at ∷ [] → IsAnswer func costs args path (Undefined at why)
  stuck_answer path vals why at within ended front is =
      (within, (record { path = path; vals = vals; walk = ended.walk; fails = ended.ends; there = ap (last_or None) is ∙ last_push None front (label_of func at) }, refl))

-- ---- parameters

place_in : {X : Type 0} (f : X → List ℕ) (xs : List X) (name : List ℕ) → Contains (map f xs) name → (at : ℕ) × (at < length xs) × ((default : X) → f (get_or xs at default) ≡ name)
place_in f [] name there = absurd (no_item name there)
place_in {X = X} f (first ∷ xs) name there = by_cases (place_in f xs name) (cons_cases (f first) (map f xs) name there)
  where
    by_cases : (Contains (map f xs) name → (at : ℕ) × (at < length xs) × ((default : X) → f (get_or xs at default) ≡ name)) → (f first ≡ name) ⊎ Contains (map f xs) name → (at : ℕ) × (at < length (first ∷ xs)) × ((default : X) → f (get_or (first ∷ xs) at default) ≡ name)
    by_cases more (inl same) = (0, omega arith, λ default. same)
    by_cases more (inr later) = let at = more later in (suc at.0, omega (arith, at.1), at.2)

abbrev param_name : Param → List ℕ
param_name param = param.name

abbrev widths : List Param → List ℕ
widths params = map (λ (param : Param). param.width) params

abbrev AreTaken : Vals → List Param → List ℕ → Type 0
AreTaken vals params args = AllZip (λ (param : Param) (arg : ℕ). vals param.name ≡ Some (ranged param.range arg)) params args

taken_at : (vals : Vals) (params : List Param) (args : List ℕ) → AreArguments (widths params) args → AreTaken vals params args → (at : ℕ) (default : Param) → at < length params → vals (get_or params at default).name ≡ Some (get_or (taken params args) at Poison)
taken_at vals [] args fits holds at default low = absurd (omega (arith, low))
taken_at vals (param ∷ params) [] fits holds at default low = absurd fits
taken_at vals (param ∷ params) (arg ∷ args) fits holds zero default low = holds.0
taken_at vals (param ∷ params) (arg ∷ args) fits holds (suc at) default low = taken_at vals params args fits.1 holds.1 at default (omega (arith, low))

abbrev slot_at : Option ℕ → ℕ
slot_at place = slot_of (option_map value_id place)

abbrev step_rest : Func → Vals → Block → Option Step
step_rest func vals block = cond (list_all (λ instr. is_assumed vals instr.op) block.body) (end_step func vals block.end) (Some (Fails cause.FalseAssume))

module _ (func : Func) (rules : Rules func) where
  different : AreDifferent (names func)
  different = subst AreDifferent (sym (values_named func)) (without_labels (param_names func) func.blocks rules.names)

  param_there : (name : List ℕ) → Contains (param_names func) name → Contains (names func) name
  param_there name among = subst (λ (all : List (List ℕ)). Contains all name) (sym (values_named func)) (Contains-append_left (param_names func) (flat_map block_names func.blocks) name among)

  -- a parameter's slot is its place
  param_slot : (at : ℕ) (default : Param) → at < length func.params → slot func (get_or func.params at default).name ≡ at
  param_slot at default low =
      let count = length-map func.params param_name in
      let first : get_or (names func) at [] ≡ (get_or func.params at default).name =
      ap (λ (all : List (List ℕ)). get_or all at []) (values_named func)
      ∙ get_or_append_left (param_names func) (flat_map block_names func.blocks) [] at (omega (arith, low, count))
      ∙ get_or-map param_name func.params at default [] low in
      let inside : at < length (names func) = below (omega (arith, low, count)) in
      ap (λ (place : Option ℕ). slot_at place) (ap (λ (name : List ℕ). place_of name (names func)) (sym first) ∙ place_is (names func) different at inside)
    where
      below : at < length (param_names func) → at < length (names func)
      below low = subst (λ (all : List (List ℕ)). at < length all) (sym (values_named func)) (omega (arith, low, length-append (param_names func) (flat_map block_names func.blocks)))

  module _ (args : List ℕ) (fits : AreArguments (widths_of func) args) where
    it : OneEnd func args
    it = one func rules args fits

    entry_label : (block : Block) (after : List Block) → it.ended.walk.blocks ≡ block ∷ after → block.label ≡ label_of func 0
    entry_label block after are = (first_arrives func args it.path it.vals rules it.ended.walk block after are).1

    some_block : (blocks : List Block) → it.ended.walk.blocks ≡ blocks → (block : Block) × (after : List Block) × (it.ended.walk.blocks ≡ block ∷ after)
    some_block [] are = absurd (omega (arith, ap length ((sym (visited func rules args fits it.path it.ended.walk.blocks it.ended.walk.visits).0 ∙ it.ended.walk.entry.1)), ap (λ (blocks : List Block). length (map block_label blocks)) are))
    some_block (block ∷ after) are = (block, after, are)

    first : (block : Block) × (after : List Block) × (it.ended.walk.blocks ≡ block ∷ after)
    first = some_block it.ended.walk.blocks refl

    abbrev entry : Block
    entry = first.0

    entry_is : entry.label ≡ label_of func 0
    entry_is = entry_label first.0 first.1 first.2

    entry_there : Contains func.blocks entry
    entry_there =
        (visited func rules args fits it.path it.ended.walk.blocks it.ended.walk.visits).1 entry
        (subst (λ (all : List Block). Contains all entry) (sym first.2) (in_here first.0 first.1))

    entry_at : IsAt func 0 entry
    entry_at = let some = rules.formed.some_block in at_label func rules 0 entry (omega (arith, some)) (sym entry_is) entry_there

    -- a strict parameter is poison
    pub barred : (costs : LabelCosts) → has_poison_argument func args ≡ true → IsAnswer func costs args (label_of func 0 ∷ []) (Undefined 0 cause.PoisonArgument)
    barred costs poison =
        let is : step_of func args it.vals entry ≡ Some (Fails cause.PoisonArgument) = λ i. cond (poison i) (Some (Fails cause.PoisonArgument)) (step_rest func it.vals entry) in
        let ended = walk_ends func rules args fits it.path it.vals it.last it.ended [] entry (Fails cause.PoisonArgument) tt is first.1 first.2 in
        stuck_answer func costs args (label_of func 0 ∷ []) it.vals cause.PoisonArgument 0 entry_at.within
        (subst (λ (label : List ℕ). Ended func args (label ∷ []) it.vals (Fails cause.PoisonArgument)) entry_is ended) [] refl

    module _ (slots : List Val) (has : HasArguments func args slots) where
      params_hold : Holds func it.vals slots (param_names func)
      params_hold = record {
        room = has.room;
        named = param_there;
        has = λ name among. value_of name (place_in param_name func.params name among);
      }
        where
          value_of : (name : List ℕ) → (at : ℕ) × (at < length func.params) × ((default : Param) → (get_or func.params at default).name ≡ name) → it.vals name ≡ Some (get_or slots (slot func name) Poison)
          value_of name (at, low, is) =
              let default : Param = record { name = []; width = 0; range = None; strict = false } in
              let given = taken_at it.vals func.params args fits it.ended.walk.params at default low in
              let there : get_or slots at Poison ≡ get_or (taken func.params args) at Poison = has.placed at low in
              let place : at ≡ slot func name = sym (param_slot at default low) ∙ ap (slot func) (is default) in
              ap it.vals (sym (is default)) ∙ given ∙ ap Some (sym there ∙ ap (λ (at : ℕ). get_or slots at Poison) place)

      begin_with : entry.phis ≡ [] → Stands func args 0 (record { 0 = 0 } ∷ []) slots
      begin_with none = record {
        walked = it.path;
        vals = it.vals;
        last = it.last;
        ended = it.ended;
        done = [];
        block = entry;
        after = first.1;
        are = first.2;
        is_at = entry_at;
        labels = ap (λ (label : List ℕ). label ∷ []) (sym entry_is);
        arrives = (refl, entry_is);
        holds = holds_same func it.vals slots (param_names func) (names_on func [] ++ names_in (map OfPhi entry.phis))
            (sym (append-nil (param_names func)) ∙ sym (append-nil (names_on func [])) ∙ ap (λ (phis : List Phi). names_on func [] ++ names_in (map OfPhi phis)) (sym none)) params_hold;
        places = All-cons (λ (block : BlockId). block.0 < length func.blocks) (record { 0 = 0 }) [] entry_at.within (All-nil (λ (block : BlockId). block.0 < length func.blocks));
        apart = IsDistinct-from_apart eqb (0 ∷ []) (λ i j default below low. absurd (omega (arith, below, low)));
      }

      pub begin : Stands func args 0 (record { 0 = 0 } ∷ []) slots
      begin = begin_with (entry_free func rules entry entry_there entry_is entry.phis (map OfInstr entry.body ++ OfEnd entry.end ∷ []) refl (λ phi among. among))

-- ---- how many values there are

named_few : (name : List ℕ) (width : Option ℕ) → length (named name width) ≤ 1
named_few name None = omega arith
named_few name (Some width) = omega arith

abbrev instr_values : Instr → List (List ℕ × ℕ)
instr_values instr = named instr.name (result_width instr.op)

body_few : (body : List Instr) → length (flat_map instr_values body) ≤ length body
body_few [] = omega arith
body_few (instr ∷ body) =
    let here = named_few instr.name (result_width instr.op) in
    let rest = body_few body in
    omega (arith, here, rest, length-append (instr_values instr) (flat_map instr_values body))

abbrev phi_value_of : Phi → List ℕ × ℕ
phi_value_of phi = (phi.name, phi.width)

block_few : (block : Block) → length (block_values block) ≤ length block.phis + length block.body
block_few block =
    let phis = length-map block.phis phi_value_of in
    let body = body_few block.body in
    omega (arith, phis, body, length-append (map phi_value_of block.phis) (flat_map instr_values block.body))

blocks_few : (blocks : List Block) → length (flat_map block_values blocks) ≤ sum_by items_in blocks
blocks_few [] = omega arith
blocks_few (block ∷ blocks) =
    let here = block_few block in
    let rest = blocks_few blocks in
    omega (arith, here, rest, length-append (block_values block) (flat_map block_values blocks), sum_by-cons items_in block blocks)

abbrev param_value : Param → List ℕ × ℕ
param_value param = (param.name, param.width)

pub few_values : (func : Func) → length (values_of func) ≤ count_values func
few_values func =
    let params = length-map func.params param_value in
    let blocks = blocks_few func.blocks in
    omega (arith, params, blocks, length-append (map param_value func.params) (flat_map block_values func.blocks))

pub args_count : (params : List Param) (args : List ℕ) → AreArguments (widths params) args → length params ≡ length args
args_count [] [] fits = refl
args_count [] (arg ∷ args) fits = absurd fits
args_count (param ∷ params) [] fits = absurd fits
args_count (param ∷ params) (arg ∷ args) fits = ap suc (args_count params args fits.1)

-- ---- arguments, one after another

module _ (params : List Param) (args : List ℕ) (count : length params ≡ length args) (at : ℕ) where
  abbrev given : List (Param × ℕ)
  given = zip params args

  size : length given ≡ length params
  size = length-zip params args ∙ omega (arith, count)

  here : (param : Param) → at < length params → param ≡ get_or params at param → get_or given at (param, 0) ≡ (param, get_or args at 0)
  here param low is = get_or-zip params args at (param, 0) low (omega (arith, low, count)) ∙ ap (λ (p : Param). (p, get_or args at 0)) (sym is)

  pub barred_more : (param : Param) → at < length params → param ≡ get_or params at param → list_any is_barred (drop at given) ≡ (is_barred (param, get_or args at 0) || list_any is_barred (drop (at + 1) given))
  barred_more param low is =
      ap (list_any is_barred) (drop_more given at (param, 0) (omega (arith, low, size)))
      ∙ ap (λ (one : Param × ℕ). is_barred one || list_any is_barred (drop (at + 1) given)) (here param low is)

  pub barred_none : length params ≤ at → list_any is_barred (drop at given) ≡ false
  barred_none past = ap (list_any is_barred) (drop_all at given (omega (arith, past, size)))

  pub taken_here : (param : Param) → at < length params → param ≡ get_or params at param → get_or (taken params args) at Poison ≡ ranged param.range (get_or args at 0)
  taken_here param low is = get_or-map taken_as given at (param, 0) Poison (omega (arith, low, size)) ∙ ap taken_as (here param low is)

-- ---- a push for which there is room

pub pushed : {A E X : Type 0} (result : Result A E) (new old more : List X) → new ≡ cond (is_ok result) more old → IsOk result → new ≡ more
pushed (Ok x) new old more is ok = is
pushed (Err x) new old more is ok = absurd (false≢true ok)
