-- A walk goes on block by block until it ends, and every walk that ends is this one.
use Rattle.std.proofs.Common.{◌≡◌, ◌⊎◌, inl, inr, ◌<◌, ◌≤◌, ℕ, zero, suc, List, [], ◌∷◌, ◌++◌, length, map, Bool, true, false, cond, not, get_or, Option, Some, None, is_some, IsSome, refl, sym, ◌∙◌, ap, subst, arith, append_assoc, append-nil}
use Rattle.std.specs.Prelude.{Contains, flat_map, filter}
use Rattle.std.specs.List.{AllByRecursion, AllZip}
use Rattle.std.specs.Map.{update}
use Rattle.std.specs.Str.{bytes_eq}
use Rattle.std.proofs.lemmas.Bool.{true≢false, false≢true}
use Rattle.std.proofs.lemmas.Option.{none-some, same_Some}
use Rattle.std.proofs.lemmas.Slice.Eq.{bytes_eq-Decides}
use Rattle.std.proofs.lemmas.List.Concat.{flat_map-append}
use Rattle.std.proofs.lemmas.List.{map-append}
use Rattle.std.proofs.lemmas.List.Elements.{Contains-append_cases, Contains-append_left, Contains-append_right}
use Rattle.wx_base.specs.Args.{AreArguments}
use Rattle.ll_tree.specs.declared.func.Func.{Func}
use Rattle.ll_tree.specs.declared.func.Param.{Param}
use Rattle.ll_tree.specs.declared.block.Block.{Block}
use Rattle.ll_rules.specs.Items.{items_of}
use Rattle.name_table.specs.Names.{AreDifferent}
use Rattle.name_table.proofs.DifferentLaws.{different-left}
use Rattle.ll_flow.specs.Paths.{label_of, GoesTo, IsPathTo}
use Rattle.ll_flow.proofs.PlaceLaws.{no_item, cons_cases, absent}
use Rattle.ll_verifier.specs.Rules.{Rules}
use Rattle.ir_meaning.specs.declared.value.Val.{Val}
use Rattle.ir_runs.specs.Values.{Vals, ranged}
use Rattle.ir_runs.specs.Walk.{Step, Goes, Returns, Fails, step_of, LeadOn, EndsWith, IsValued, AreValued, block_names, names_on, widths_of, block_of, Walk}
use Rattle.ir_runs.proofs.MemberLaws.{in_here, in_there, in_map}
use Rattle.ir_runs.proofs.NamesLaws.{param_names, names_in, block_names_are, same_block}
use Rattle.ir_runs.proofs.TrailLaws.{no_return}
use Rattle.ir_runs.proofs.ValueLaws.{Grows}
use Rattle.ir_runs.proofs.StepLaws.{IsReady, step_has, step_same, ready_grows, step_target, goes_same}
use Rattle.ir_runs.proofs.UsedLaws.{block_label, AreWithin}
use Rattle.ir_runs.proofs.EntryLaws.{block_is, block_in, target_there}
use Rattle.ir_runs.proofs.BlockLaws.{all_weaker, IsFirm, firm_valued, firm_grows, Knows, unknown, leaving, Arrives, path_to, AtItem, block_values_made, block_ready}

-- ---- where the blocks of a path lead

abbrev pub IsEnd : Step → Type 0
IsEnd (Goes label) = ⊥
IsEnd (Returns result) = Unit {0}
IsEnd (Fails why) = Unit {0}

pub goes_on_not : (step : Step) (label : List ℕ) → IsEnd step → Some step ≡ Some (Goes label) → ⊥
goes_on_not step label is same = subst IsEnd (same_Some step (Goes label) same) is

module _ (func : Func) (args : List ℕ) where
  abbrev step : Vals → Block → Option Step
  step vals block = step_of func args vals block

  pub lead_at : (vals : Vals) (done : List Block) (block next : Block) (after : List Block) → LeadOn func args vals (done ++ block ∷ next ∷ after) → step vals block ≡ Some (Goes next.label)
  lead_at vals [] block next after leads = leads.0
  lead_at vals (first ∷ []) block next after leads = leads.1.0
  lead_at vals (first ∷ second ∷ done) block next after leads = lead_at vals (second ∷ done) block next after leads.1

  pub end_at : (vals : Vals) (done : List Block) (block : Block) (last : Step) → EndsWith func args vals (done ++ block ∷ []) last → step vals block ≡ Some last
  end_at vals [] block last ends = ends
  end_at vals (first ∷ []) block last ends = ends
  end_at vals (first ∷ second ∷ done) block last ends = end_at vals (second ∷ done) block last ends

  at_end : (vals : Vals) (done : List Block) (block : Block) (last : Step) → step vals block ≡ Some last → EndsWith func args vals (done ++ block ∷ []) last
  at_end vals [] block last ends = ends
  at_end vals (first ∷ []) block last ends = ends
  at_end vals (first ∷ second ∷ done) block last ends = at_end vals (second ∷ done) block last ends

  -- each block leads to the next, and the last to a label
  abbrev LeadTo : Vals → List Block → List ℕ → Type 0
  LeadTo vals [] next = Unit {0}
  LeadTo vals (block ∷ []) next = step vals block ≡ Some (Goes next)
  LeadTo vals (block ∷ other ∷ blocks) next = (step vals block ≡ Some (Goes other.label)) × LeadTo vals (other ∷ blocks) next

  lead_push : (vals : Vals) (done : List Block) (block : Block) (next : List ℕ) → LeadTo vals done block.label → step vals block ≡ Some (Goes next) → LeadTo vals (done ++ block ∷ []) next
  lead_push vals [] block next leads goes = goes
  lead_push vals (first ∷ []) block next leads goes = (leads, goes)
  lead_push vals (first ∷ second ∷ done) block next leads goes = (leads.0, lead_push vals (second ∷ done) block next leads.1 goes)

  lead_on : (vals : Vals) (done : List Block) (block : Block) → LeadTo vals done block.label → LeadOn func args vals (done ++ block ∷ [])
  lead_on vals [] block leads = tt
  lead_on vals (first ∷ []) block leads = (leads, tt)
  lead_on vals (first ∷ second ∷ done) block leads = (leads.0, lead_on vals (second ∷ done) block leads.1)

  lead_same : (vals more : Vals) (done : List Block) (next : List ℕ) → ((block : Block) → Contains done block → step more block ≡ step vals block) → LeadTo vals done next → LeadTo more done next
  lead_same vals more [] next same leads = tt
  lead_same vals more (block ∷ []) next same leads = same block (in_here block []) ∙ leads
  lead_same vals more (block ∷ other ∷ blocks) next same leads =
      (same block (in_here block (other ∷ blocks)) ∙ leads.0, lead_same vals more (other ∷ blocks) next (λ any there. same any (in_there block any (other ∷ blocks) there)) leads.1)

-- ---- values of the blocks of a path

abbrev AreFirm : Vals → Option (List ℕ) → List Block → Type 0
AreFirm vals before [] = Unit {0}
AreFirm vals before (block ∷ blocks) = AllByRecursion (IsFirm vals before) (items_of block) × AreFirm vals (Some block.label) blocks

firm_push : (vals : Vals) (before : Option (List ℕ)) (done : List Block) (block : Block) → AreFirm vals before done → AllByRecursion (IsFirm vals (leaving before done)) (items_of block) → AreFirm vals before (done ++ block ∷ [])
firm_push vals before [] block firm here = (here, tt)
firm_push vals before (first ∷ done) block firm here = (firm.0, firm_push vals (Some first.label) done block firm.1 here)

all_firm_grows : (vals more : Vals) → Grows vals more → (before : Option (List ℕ)) (done : List Block) → AreFirm vals before done → AreFirm more before done
all_firm_grows vals more grows before [] firm = tt
all_firm_grows vals more grows before (block ∷ done) firm =
    (all_weaker (IsFirm vals before) (IsFirm more before) (firm_grows vals more grows before) (items_of block) firm.0, all_firm_grows vals more grows (Some block.label) done firm.1)

all_valued : (vals : Vals) (before : Option (List ℕ)) (done : List Block) → AreFirm vals before done → AreValued vals before done
all_valued vals before [] firm = tt
all_valued vals before (block ∷ done) firm = (all_weaker (IsFirm vals before) (IsValued vals before) (firm_valued vals before) (items_of block) firm.0, all_valued vals (Some block.label) done firm.1)

pub valued_at : (vals : Vals) (before : Option (List ℕ)) (done : List Block) (block : Block) (after : List Block) → AreValued vals before (done ++ block ∷ after) → AllByRecursion (IsValued vals (leaving before done)) (items_of block)
valued_at vals before [] block after valued = valued.0
valued_at vals before (first ∷ done) block after valued = valued_at vals (Some first.label) done block after valued.1

pub leaving_push : (before : Option (List ℕ)) (done : List Block) (block : Block) → leaving before (done ++ block ∷ []) ≡ Some block.label
leaving_push before [] block = refl
leaving_push before (first ∷ done) block = leaving_push (Some first.label) done block

pub names_push : (func : Func) (done : List Block) (block : Block) → names_on func done ++ names_in (items_of block) ≡ names_on func (done ++ block ∷ [])
names_push func done block =
    append_assoc (param_names func) (flat_map block_names done) (names_in (items_of block))
    ∙ ap (λ (names : List (List ℕ)). param_names func ++ (flat_map block_names done ++ names)) (sym (block_names_are block) ∙ sym (append-nil (block_names block)))
    ∙ ap (λ (names : List (List ℕ)). param_names func ++ names) (sym (flat_map-append block_names done (block ∷ [])))

-- ---- the values of the parameters

abbrev start : List Param → List ℕ → Vals
start [] args = λ name. None
start (param ∷ params) [] = λ name. None
start (param ∷ params) (arg ∷ args) = update bytes_eq (start params args) param.name (Some (ranged param.range arg))

abbrev names_of_params : List Param → List (List ℕ)
names_of_params params = map (λ (param : Param). param.name) params

abbrev widths : List Param → List ℕ
widths params = map (λ (param : Param). param.width) params

abbrev Holds : Vals → List Param → List ℕ → Type 0
Holds vals params args = AllZip (λ (param : Param) (arg : ℕ). vals param.name ≡ Some (ranged param.range arg)) params args

start_knows : (params : List Param) (args : List ℕ) → AreArguments (widths params) args → Knows (start params args) (names_of_params params)
start_knows [] args fits name = (λ is. absurd (false≢true is), λ there. absurd (no_item name there))
start_knows (param ∷ params) [] fits name = absurd fits
start_knows (param ∷ params) (arg ∷ args) fits name = (there (start_knows params args fits.1 name).0, back (start_knows params args fits.1 name).1)
  where
    there : (IsSome (start params args name) → Contains (names_of_params params) name) → IsSome (start (param ∷ params) (arg ∷ args) name) → Contains (param.name ∷ names_of_params params) name
    there rest is = by_test (bytes_eq param.name name) refl
      where
        by_test : (b : Bool) → bytes_eq param.name name ≡ b → Contains (param.name ∷ names_of_params params) name
        by_test true same = subst (λ (n : List ℕ). Contains (param.name ∷ names_of_params params) n) ((bytes_eq-Decides param.name name).0 same) (in_here param.name (names_of_params params))
        by_test false apart = in_there param.name name (names_of_params params) (rest (subst (λ (b : Bool). IsSome (cond b (Some (ranged param.range arg)) (start params args name))) apart is))

    back : (Contains (names_of_params params) name → IsSome (start params args name)) → Contains (param.name ∷ names_of_params params) name → IsSome (start (param ∷ params) (arg ∷ args) name)
    back rest known = by_test (bytes_eq param.name name) refl (cons_cases param.name (names_of_params params) name known)
      where
        by_test : (b : Bool) → bytes_eq param.name name ≡ b → (param.name ≡ name) ⊎ Contains (names_of_params params) name → IsSome (start (param ∷ params) (arg ∷ args) name)
        by_test true same which = rw same refl
        by_test false apart (inl same) = absurd (true≢false (sym ((bytes_eq-Decides param.name name).1 same) ∙ apart))
        by_test false apart (inr later) = rw apart (rest later)

holds_same : (vals more : Vals) (params : List Param) (args : List ℕ) → ((name : List ℕ) → Contains (names_of_params params) name → more name ≡ vals name) → Holds vals params args → Holds more params args
holds_same vals more [] [] same holds = tt
holds_same vals more [] (arg ∷ args) same holds = holds
holds_same vals more (param ∷ params) [] same holds = holds
holds_same vals more (param ∷ params) (arg ∷ args) same holds =
    (same param.name (in_here param.name (names_of_params params)) ∙ holds.0, holds_same vals more params args (λ name there. same name (in_there param.name name (names_of_params params) there)) holds.1)

start_holds : (params : List Param) (args : List ℕ) → AreArguments (widths params) args → AreDifferent (names_of_params params) → Holds (start params args) params args
start_holds [] [] fits different = tt
start_holds [] (arg ∷ args) fits different = absurd fits
start_holds (param ∷ params) [] fits different = absurd fits
start_holds (param ∷ params) (arg ∷ args) fits different = (rw ((bytes_eq-Decides param.name param.name).1 refl) refl, holds_same (start params args) (start (param ∷ params) (arg ∷ args)) params args other (start_holds params args fits.1 different.1))
  where
    other : (name : List ℕ) → Contains (names_of_params params) name → start (param ∷ params) (arg ∷ args) name ≡ start params args name
    other name there = by_test (bytes_eq param.name name) refl
      where
        by_test : (b : Bool) → bytes_eq param.name name ≡ b → start (param ∷ params) (arg ∷ args) name ≡ start params args name
        by_test true same = absurd (absent param.name (names_of_params params) different.0 (subst (λ (n : List ℕ). Contains (names_of_params params) n) (sym ((bytes_eq-Decides param.name name).0 same)) there))
        by_test false apart = rw apart refl

start_grows : (params : List Param) (args : List ℕ) (other : Vals) → Holds other params args → Grows (start params args) other
start_grows [] args other holds name val is = absurd (none-some val is)
start_grows (param ∷ params) [] other holds name val is = absurd holds
start_grows (param ∷ params) (arg ∷ args) other holds name val is = by_test (bytes_eq param.name name) refl (start_grows params args other holds.1 name val)
  where
    by_test : (b : Bool) → bytes_eq param.name name ≡ b → (start params args name ≡ Some val → other name ≡ Some val) → other name ≡ Some val
    by_test true same rest =
        let given : Some (ranged param.range arg) ≡ Some val = subst (λ (b : Bool). cond b (Some (ranged param.range arg)) (start params args name) ≡ Some val) same is in
        ap other (sym ((bytes_eq-Decides param.name name).0 same)) ∙ holds.0 ∙ given
    by_test false apart rest = rest (subst (λ (b : Bool). cond b (Some (ranged param.range arg)) (start params args name) ≡ Some val) apart is)

held_params : (vals more : Vals) → Grows vals more → (params : List Param) (args : List ℕ) → Holds vals params args → Holds more params args
held_params vals more grows [] [] holds = tt
held_params vals more grows [] (arg ∷ args) holds = holds
held_params vals more grows (param ∷ params) [] holds = holds
held_params vals more grows (param ∷ params) (arg ∷ args) holds = (grows param.name (ranged param.range arg) holds.0, held_params vals more grows params args holds.1)

-- ---- labels that are left

abbrev without : List ℕ → List (List ℕ) → List (List ℕ)
without label labels = filter (λ other. not (bytes_eq label other)) labels

without_most : (label : List ℕ) (labels : List (List ℕ)) → length (without label labels) ≤ length labels
without_most label [] = omega arith
without_most label (other ∷ labels) = by_test (bytes_eq label other) refl (without_most label labels)
  where
    by_test : (b : Bool) → bytes_eq label other ≡ b → length (without label labels) ≤ length labels → length (without label (other ∷ labels)) ≤ length (other ∷ labels)
    by_test true is rest = rw is (omega (arith, rest))
    by_test false is rest = rw is (omega (arith, rest))

without_less : (label : List ℕ) (labels : List (List ℕ)) → Contains labels label → length (without label labels) < length labels
without_less label [] there = absurd (no_item label there)
without_less label (other ∷ labels) there = by_test (bytes_eq label other) refl (without_less label labels) (cons_cases other labels label there)
  where
    by_test : (b : Bool) → bytes_eq label other ≡ b → (Contains labels label → length (without label labels) < length labels) → (other ≡ label) ⊎ Contains labels label → length (without label (other ∷ labels)) < length (other ∷ labels)
    by_test true is rest which = rw is (omega (arith, without_most label labels))
    by_test false is rest (inl same) = absurd (true≢false (sym ((bytes_eq-Decides label other).1 (sym same)) ∙ is))
    by_test false is rest (inr later) = rw is (omega (arith, rest later))

without_keeps : (label any : List ℕ) (labels : List (List ℕ)) → Contains labels any → (label ≡ any) ⊎ Contains (without label labels) any
without_keeps label any [] there = absurd (no_item any there)
without_keeps label any (other ∷ labels) there = by_test (bytes_eq label other) refl (without_keeps label any labels) (cons_cases other labels any there)
  where
    by_test : (b : Bool) → bytes_eq label other ≡ b → (Contains labels any → (label ≡ any) ⊎ Contains (without label labels) any) → (other ≡ any) ⊎ Contains labels any → (label ≡ any) ⊎ Contains (without label (other ∷ labels)) any
    by_test true is rest (inl same) = inl ((bytes_eq-Decides label other).0 is ∙ same)
    by_test true is rest (inr later) = rw is (rest later)
    by_test false is rest (inl same) = inr (rw is (subst (λ (n : List ℕ). Contains (other ∷ without label labels) n) same (in_here other (without label labels))))
    by_test false is rest (inr later) = kept (rest later)
      where
        kept : (label ≡ any) ⊎ Contains (without label labels) any → (label ≡ any) ⊎ Contains (without label (other ∷ labels)) any
        kept (inl same) = inl same
        kept (inr there) = inr (rw is (in_there other any (without label labels) there))

-- ---- a walk goes on

-- A walk that ends.
pub record Ended (func : Func) (args : List ℕ) (path : List (List ℕ)) (vals : Vals) (last : Step) : Type 0 where
  pub walk : Walk func args path vals
  pub ends : EndsWith func args vals walk.blocks last
  pub stops : IsEnd last

-- The one walk that ends.
pub record OneEnd (func : Func) (args : List ℕ) : Type 0 where
  pub path : List (List ℕ)
  pub vals : Vals
  pub last : Step
  pub ended : Ended func args path vals last
  pub only : (other : List (List ℕ)) (others : Vals) (step : Step) → Ended func args other others step → (other ≡ path) × (others ≡ vals) × (step ≡ last)

-- another walk visits the same blocks and then one with this label, and has the same values
record Shares (done : List Block) (vals : Vals) (next : List ℕ) (other : Vals) (blocks : List Block) : Type 0 where
  pub grows : Grows vals other
  pub block : Block
  pub after : List Block
  pub blocks_are : blocks ≡ done ++ block ∷ after
  pub label : block.label ≡ next

abbrev pub first_label : List (List ℕ) → List ℕ
first_label [] = []
first_label (label ∷ labels) = label

abbrev first_found : List (Option Block) → Option Block
first_found [] = None
first_found (found ∷ rest) = found

abbrev rest_found : List (Option Block) → List (Option Block)
rest_found [] = []
rest_found (found ∷ rest) = rest

module _ (func : Func) (rules : Rules func) (args : List ℕ) (fits : AreArguments (widths_of func) args) where
  pub visited : (path : List (List ℕ)) (blocks : List Block) → map (block_of func) path ≡ map Some blocks → (path ≡ map block_label blocks) × AreWithin func rules blocks
  visited [] [] visits = (refl, λ block there. absurd (no_item block there))
  visited [] (block ∷ blocks) visits = absurd (omega (arith, ap length visits))
  visited (label ∷ path) [] visits = absurd (omega (arith, ap length visits))
  visited (label ∷ path) (block ∷ blocks) visits =
      let here = block_in func rules label block (ap first_found visits) in
      let rest = visited path blocks (ap rest_found visits) in
      ((λ i. sym here.1 i ∷ rest.0 i), within here.0 rest.1)
    where
      within : Contains func.blocks block → AreWithin func rules blocks → AreWithin func rules (block ∷ blocks)
      within here rest other there = by_cases (cons_cases block blocks other there)
        where
          by_cases : (block ≡ other) ⊎ Contains blocks other → Contains func.blocks other
          by_cases (inl same) = subst (λ (b : Block). Contains func.blocks b) same here
          by_cases (inr later) = rest other later

  visits_of : (blocks : List Block) → AreWithin func rules blocks → map (block_of func) (map block_label blocks) ≡ map Some blocks
  visits_of [] within = refl
  visits_of (block ∷ blocks) within =
      let here = block_is func rules block (within block (in_here block blocks)) in
      let rest = visits_of blocks (λ other there. within other (in_there block other blocks there)) in
      λ i. here i ∷ rest i

  -- some blocks are walked, and lead to one with a label
  record Ongoing (done : List Block) (vals : Vals) (next : List ℕ) : Type 0 where
    pub within : AreWithin func rules done
    pub arrives : Arrives func done (leaving None done) next
    pub knows : Knows vals (names_on func done)
    pub holds : Holds vals func.params args
    pub firm : AreFirm vals None done
    pub ready : (block : Block) → Contains done block → IsReady vals block
    pub leads : LeadTo func args vals done next
    pub begins : (rest : List (List ℕ)) × (map block_label done ++ next ∷ [] ≡ label_of func 0 ∷ rest)
    pub shared : (path : List (List ℕ)) (other : Vals) (last : Step) (ended : Ended func args path other last) → Shares done vals next other ended.walk.blocks

  abbrev Other : Vals → Type 0
  Other other = (path : List (List ℕ)) × (last : Step) × Ended func args path other last

  module _ (done : List Block) (vals : Vals) (block : Block) (there : Contains func.blocks block) (going : Ongoing done vals block.label) where
    path : IsPathTo func (map block_label done ++ block.label ∷ []) block.label
    path = path_to func done (leaving None done) block.label going.arrives

    new_by : (before : Option (List ℕ)) → Arrives func done before block.label → Contains (map block_label done) block.label → ⊥
    new_by None (none, is) among = no_item block.label (subst (λ (blocks : List Block). Contains (map block_label blocks) block.label) none among)
    new_by (Some last) (path, goes) among = no_return func rules.acyclic (map block_label done) last block.label path goes among

    -- the block isn't walked yet
    new_label : Contains (map block_label done) block.label → ⊥
    new_label = new_by (leaving None done) going.arrives

    new_block : Contains done block → ⊥
    new_block among = new_label (in_map block_label done block among)

    -- other walks visit it too
    same_here : (path : List (List ℕ)) (other : Vals) (last : Step) (ended : Ended func args path other last) → (after : List Block) × (ended.walk.blocks ≡ done ++ block ∷ after) × Grows vals other
    same_here path other last ended =
        let shares = going.shared path other last ended in
        let within = (visited path ended.walk.blocks ended.walk.visits).1 in
        let among : Contains ended.walk.blocks shares.block = subst (λ (blocks : List Block). Contains blocks shares.block) (sym shares.blocks_are) (Contains-append_right done (shares.block ∷ shares.after) shares.block (in_here shares.block shares.after)) in
        let same : shares.block ≡ block = same_block func rules.names shares.block block (within shares.block among) there shares.label in
        (shares.after, shares.blocks_are ∙ ap (λ (b : Block). done ++ b ∷ shares.after) same, shares.grows)

    has_block : (other : Vals) → Other other → AllByRecursion (IsValued other (leaving None done)) (items_of block)
    has_block other (path, last, ended) =
        let same = same_here path other last ended in
        valued_at other None done block same.0 (subst (AreValued other None) same.1 ended.walk.values)

    made : (now : Vals) × AtItem func done (leaving None done) Other vals (items_of block) now
    made =
        block_values_made func rules done going.within block there new_block (leaving None done) going.arrives path vals Other has_block going.knows
        (λ other walks. (same_here walks.0 other walks.1 walks.2).2)

    abbrev now : Vals
    now = made.0

    here : AtItem func done (leaving None done) Other vals (items_of block) now
    here = made.1

    ready : IsReady now block
    ready = block_ready func rules done going.within block there new_block (leaving None done) going.arrives path now here.knows

    knows_now : Knows now (names_on func (done ++ block ∷ []))
    knows_now = subst (Knows now) (names_push func done block) here.knows

    within_now : AreWithin func rules (done ++ block ∷ [])
    within_now other among = by_cases (Contains-append_cases done (block ∷ []) other among)
      where
        by_own : (block ≡ other) ⊎ Contains [] other → Contains func.blocks other
        by_own (inl same) = subst (λ (b : Block). Contains func.blocks b) same there
        by_own (inr none) = absurd (no_item other none)

        by_cases : Contains done other ⊎ Contains (block ∷ []) other → Contains func.blocks other
        by_cases (inl earlier) = going.within other earlier
        by_cases (inr own) = by_own (cons_cases block [] other own)

    firm_now : AreFirm now None (done ++ block ∷ [])
    firm_now = firm_push now None done block (all_firm_grows vals now here.grows None done going.firm) here.firm

    leads_now : LeadTo func args now done block.label
    leads_now = lead_same func args vals now done block.label (λ any among. step_same vals now here.grows func args any (going.ready any among)) going.leads

    labels_now : map block_label (done ++ block ∷ []) ≡ map block_label done ++ block.label ∷ []
    labels_now = map-append block_label done (block ∷ [])

    -- the same step in another walk
    step_there : (path : List (List ℕ)) (other : Vals) (last : Step) (ended : Ended func args path other last) → step_of func args other block ≡ step_of func args now block
    step_there path other last ended = step_same now other (here.shared other (path, last, ended)) func args block ready

    -- where the block leads on, the walk goes on
    module _ (next : List ℕ) (goes : step_of func args now block ≡ Some (Goes next)) where
      goes_to : GoesTo func block.label next
      goes_to = (block, there, refl, step_target func args now block next goes)

      ready_now : (any : Block) → Contains (done ++ block ∷ []) any → IsReady now any
      ready_now any among = by_cases (Contains-append_cases done (block ∷ []) any among)
        where
          by_own : (block ≡ any) ⊎ Contains [] any → IsReady now any
          by_own (inl same) = subst (IsReady now) same ready
          by_own (inr none) = absurd (no_item any none)

          by_cases : Contains done any ⊎ Contains (block ∷ []) any → IsReady now any
          by_cases (inl earlier) = ready_grows vals now here.grows any (going.ready any earlier)
          by_cases (inr own) = by_own (cons_cases block [] any own)

      shared_now : (path : List (List ℕ)) (other : Vals) (last : Step) (ended : Ended func args path other last) → Shares (done ++ block ∷ []) now next other ended.walk.blocks
      shared_now path other last ended = let same = same_here path other last ended in by_after same.0 same.1
        where
          by_after : (after : List Block) → ended.walk.blocks ≡ done ++ block ∷ after → Shares (done ++ block ∷ []) now next other ended.walk.blocks
          by_after [] blocks =
              absurd (goes_on_not last next ended.stops (sym (end_at func args other done block last (subst (λ (l : List Block). EndsWith func args other l last) blocks ended.ends)) ∙ step_there path other last ended ∙ goes))
          by_after (second ∷ after) blocks =
              let leads : step_of func args other block ≡ Some (Goes second.label) = lead_at func args other done block second after (subst (LeadOn func args other) blocks ended.walk.follow) in
              record {
                grows = here.shared other (path, last, ended);
                block = second;
                after = after;
                blocks_are = blocks ∙ sym (append_assoc done (block ∷ []) (second ∷ after));
                label = goes_same second.label next (same_Some (Goes second.label) (Goes next) (sym leads ∙ step_there path other last ended ∙ goes));
              }

      begins_now : (rest : List (List ℕ)) × (map block_label (done ++ block ∷ []) ++ next ∷ [] ≡ label_of func 0 ∷ rest)
      begins_now = (going.begins.0 ++ next ∷ [], ap (λ (labels : List (List ℕ)). labels ++ next ∷ []) (labels_now ∙ going.begins.1))

      goes_on : Ongoing (done ++ block ∷ []) now next
      goes_on = record {
        within = within_now;
        arrives = subst (λ (before : Option (List ℕ)). Arrives func (done ++ block ∷ []) before next) (sym (leaving_push None done block)) (subst (λ (labels : List (List ℕ)). IsPathTo func labels block.label) (sym labels_now) path, goes_to);
        knows = knows_now;
        holds = held_params vals now here.grows func.params args going.holds;
        firm = firm_now;
        ready = ready_now;
        leads = lead_push func args now done block next leads_now goes;
        begins = begins_now;
        shared = shared_now;
      }

    -- where it ends, this is the walk
    module _ (last : Step) (stops : IsEnd last) (ends : step_of func args now block ≡ Some last) where
      walk : Walk func args (map block_label (done ++ block ∷ [])) now
      walk = record {
        arguments = fits;
        entry = (going.begins.0, labels_now ∙ going.begins.1);
        blocks = done ++ block ∷ [];
        visits = visits_of (done ++ block ∷ []) within_now;
        names = knows_now;
        params = held_params vals now here.grows func.params args going.holds;
        values = all_valued now None (done ++ block ∷ []) firm_now;
        follow = lead_on func args now done block leads_now;
      }

      only_walk : (path : List (List ℕ)) (other : Vals) (step : Step) → Ended func args path other step → (path ≡ map block_label (done ++ block ∷ [])) × (other ≡ now) × (step ≡ last)
      only_walk path other step ended = let same = same_here path other step ended in by_after same.0 same.1
        where
          by_after : (after : List Block) → ended.walk.blocks ≡ done ++ block ∷ after → (path ≡ map block_label (done ++ block ∷ [])) × (other ≡ now) × (step ≡ last)
          by_after (second ∷ after) blocks =
              let leads : step_of func args other block ≡ Some (Goes second.label) = lead_at func args other done block second after (subst (LeadOn func args other) blocks ended.walk.follow) in
              absurd (goes_on_not last second.label stops (sym ends ∙ sym (step_there path other step ended) ∙ leads))
          by_after [] blocks =
              let grows : Grows now other = here.shared other (path, step, ended) in
              let knows : Knows other (names_on func (done ++ block ∷ [])) = subst (λ (l : List Block). Knows other (names_on func l)) blocks ended.walk.names in
              let same : (name : List ℕ) → other name ≡ now name = λ name. same_value other knows grows name (now name) refl in (
                (visited path ended.walk.blocks ended.walk.visits).0 ∙ ap (map block_label) blocks,
                (λ i. λ name. same name i),
                same_Some step last (sym (end_at func args other done block step (subst (λ (l : List Block). EndsWith func args other l step) blocks ended.ends)) ∙ step_there path other step ended ∙ ends),
              )
            where
              same_value : (other : Vals) → Knows other (names_on func (done ++ block ∷ [])) → Grows now other → (name : List ℕ) (found : Option Val) → now name ≡ found → other name ≡ now name
              same_value other knows grows name None is =
                  unknown other (names_on func (done ++ block ∷ [])) knows name (λ known. false≢true (sym (ap is_some is) ∙ (knows_now name).1 known)) ∙ sym is
              same_value other knows grows name (Some val) is = grows name val is ∙ sym is

      one_end : OneEnd func args
      unfolding walk
      one_end = record {
        path = map block_label (done ++ block ∷ []);
        vals = now;
        last = last;
        ended = record { walk = walk; ends = at_end func args now done block last ends; stops = stops };
        only = only_walk;
      }

  -- each block is walked already or is left
  abbrev Covers : List Block → List (List ℕ) → Type 0
  Covers done left = (block : Block) → Contains func.blocks block → Contains (map block_label done) block.label ⊎ Contains left block.label

  covers_more : (done : List Block) (left : List (List ℕ)) (block : Block) → Covers done left → Covers (done ++ block ∷ []) (without block.label left)
  covers_more done left block covers other there = by_cases (covers other there)
    where
      walked : Contains (map block_label done ++ block.label ∷ []) other.label → Contains (map block_label (done ++ block ∷ [])) other.label
      walked known = subst (λ (labels : List (List ℕ)). Contains labels other.label) (sym (map-append block_label done (block ∷ []))) known

      by_left : (block.label ≡ other.label) ⊎ Contains (without block.label left) other.label → Contains (map block_label (done ++ block ∷ [])) other.label ⊎ Contains (without block.label left) other.label
      by_left (inl same) = inl (walked (Contains-append_right (map block_label done) (block.label ∷ []) other.label (subst (λ (n : List ℕ). Contains (block.label ∷ []) n) same (in_here block.label []))))
      by_left (inr later) = inr later

      by_cases : Contains (map block_label done) other.label ⊎ Contains left other.label → Contains (map block_label (done ++ block ∷ [])) other.label ⊎ Contains (without block.label left) other.label
      by_cases (inl earlier) = inl (walked (Contains-append_left (map block_label done) (block.label ∷ []) other.label earlier))
      by_cases (inr among) = by_left (without_keeps block.label other.label left among)

  left_one : (left : List (List ℕ)) (done : List Block) (vals : Vals) (block : Block) → Contains func.blocks block → Ongoing done vals block.label → Contains (map block_label done) block.label ⊎ Contains left block.label → Contains left block.label
  left_one left done vals block there going (inl walked) = absurd (new_label done vals block there going walked)
  left_one left done vals block there going (inr among) = among

  go : (fuel : ℕ) (left : List (List ℕ)) → length left ≤ fuel → (done : List Block) (vals : Vals) (block : Block) → Contains func.blocks block → Ongoing done vals block.label → Covers done left → OneEnd func args
  go zero left few done vals block there going covers =
      let among = left_one left done vals block there going (covers block there) in
      absurd (omega (arith, few, among.1))
  go (suc fuel) left few done vals block there going covers =
      by_step (step_has func args (now done vals block there going) block (ready done vals block there going))
      (go fuel (without block.label left) fewer (done ++ block ∷ []) (now done vals block there going))
    where
      fewer : length (without block.label left) ≤ fuel
      fewer = omega (arith, few, without_less block.label left (left_one left done vals block there going (covers block there)))

      by_step : (found : (last : Step) × (step_of func args (now done vals block there going) block ≡ Some last))
          → ((to : Block) → Contains func.blocks to → Ongoing (done ++ block ∷ []) (now done vals block there going) to.label → Covers (done ++ block ∷ []) (without block.label left) → OneEnd func args) → OneEnd func args
      by_step (Goes next, is) more =
          let to = target_there func rules block there next (step_target func args (now done vals block there going) block next is) in
          more to.0 to.1 (subst (Ongoing (done ++ block ∷ []) (now done vals block there going)) (sym to.2) (goes_on done vals block there going next is)) (covers_more done left block covers)
      by_step (Returns result, is) more = one_end done vals block there going (Returns result) tt is
      by_step (Fails why, is) more = one_end done vals block there going (Fails why) tt is

  entry_block : (blocks : List Block) → 1 ≤ length blocks → (block : Block) × Contains blocks block × (get_or (map block_label blocks) 0 [] ≡ block.label)
  entry_block [] some = absurd (omega (arith, some))
  entry_block (block ∷ blocks) some = (block, in_here block blocks, refl)

  first_shared : (entry : List ℕ) (other : Vals) (blocks : List Block) (rest : List (List ℕ)) → Grows (start func.params args) other → map block_label blocks ≡ entry ∷ rest → Shares [] (start func.params args) entry other blocks
  first_shared entry other [] rest grows same = absurd (omega (arith, ap length same))
  first_shared entry other (block ∷ after) rest grows same = record { grows = grows; block = block; after = after; blocks_are = refl; label = ap first_label same }

  begin : (block : Block) → label_of func 0 ≡ block.label → Ongoing [] (start func.params args) block.label
  begin block is = record {
    within = λ other among. absurd (no_item other among);
    arrives = (refl, sym is);
    knows = subst (Knows (start func.params args)) (sym (append-nil (param_names func))) (start_knows func.params args fits);
    holds = start_holds func.params args fits (different-left (param_names func) _ rules.names);
    firm = tt;
    ready = λ other among. absurd (no_item other among);
    leads = tt;
    begins = ([], ap (λ (label : List ℕ). label ∷ []) (sym is));
    shared = λ path other last ended.
        first_shared block.label other ended.walk.blocks ended.walk.entry.0 (start_grows func.params args other ended.walk.params)
        (sym (visited path ended.walk.blocks ended.walk.visits).0 ∙ ended.walk.entry.1 ∙ ap (λ (label : List ℕ). label ∷ ended.walk.entry.0) is);
  }

  -- Exactly one walk ends.
  pub one : OneEnd func args
  one =
      let entry = entry_block func.blocks rules.formed.some_block in
      go (length (map block_label func.blocks)) (map block_label func.blocks) (omega arith) [] (start func.params args) entry.0 entry.1 (begin entry.0 entry.2) (λ block there. inr (in_map block_label func.blocks block there))
