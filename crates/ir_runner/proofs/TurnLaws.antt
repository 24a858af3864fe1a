-- A run over slots goes along the one walk that ends.
use Rattle.std.proofs.Common.{◌≡◌, ◌<◌, ◌≤◌, ℕ, List, [], ◌∷◌, ◌++◌, length, map, Bool, true, false, cond, eqb, get_or, Option, Some, None, refl, sym, ◌∙◌, ap, subst, arith, append_assoc, append-nil}
use Rattle.std.specs.Prelude.{Contains, All}
use Rattle.std.specs.List.{AllByRecursion, IsDistinct, list_all, list_any}
use Rattle.std.proofs.lemmas.Bool.{eqb-true}
use Rattle.std.proofs.lemmas.Cmp.{nat_eq_equiv}
use Rattle.std.proofs.lemmas.Option.{same_Some}
use Rattle.std.proofs.lemmas.List.{get_or-map, map-append, length-map}
use Rattle.std.proofs.lemmas.List.Elements.{All-contains, All-push, Contains-get_or, Contains-append_left, Contains-append_right}
use Rattle.std.proofs.lemmas.Map.Keys.{IsDistinct-push}
use Rattle.std.proofs.lemmas.Map.Steps.{length-le_from_distinct_below}
use Rattle.std.proofs.lemmas.Map.Views.{Contains-from_any}
use Rattle.wx_base.specs.Args.{AreArguments}
use Rattle.ll_tree.specs.declared.func.Func.{Func}
use Rattle.ll_tree.specs.declared.block.Block.{Block}
use Rattle.ll_tree.specs.declared.block.Instr.{Instr}
use Rattle.ll_tree.specs.declared.block.Operand.{Operand}
use Rattle.ll_tree.specs.Formed.{IsFormedBlock, IsFormedInstr}
use Rattle.ll_rules.specs.Items.{Item, OfPhi, OfInstr, OfEnd, items_of, Use, end_parts}
use Rattle.ll_links.specs.declared.link.BlockId.{BlockId}
use Rattle.ll_flow.specs.Paths.{label_of, GoesTo, IsPathTo}
use Rattle.ll_verifier.specs.Rules.{Rules}
use Rattle.ir_meaning.specs.declared.value.Val.{Val}
use Rattle.ir_runs.specs.Values.{Vals}
use Rattle.ir_runs.specs.Walk.{Step, Goes, Fails, end_step, has_poison_argument, step_of, LeadOn, EndsWith, IsValued, AreValued, names_on, widths_of}
use Rattle.ir_runs.specs.Fit.{AllFit}
use Rattle.ir_runs.specs.declared.undefined.UndefinedCause.TheVariants as cause
use Rattle.ir_runs.proofs.MemberLaws.{in_map, map_in}
use Rattle.ir_runs.proofs.NamesLaws.{item_names, names_in, same_block}
use Rattle.ir_runs.proofs.TrailLaws.{no_return}
use Rattle.ir_runs.proofs.StepLaws.{goes_same, step_target}
use Rattle.ir_runs.proofs.UsedLaws.{block_label, AreWithin, item_known}
use Rattle.ir_runs.proofs.BlockLaws.{leaving, Arrives}
use Rattle.ir_runs.proofs.WalkLaws.{IsEnd, goes_on_not, lead_at, end_at, valued_at, leaving_push, names_push, Ended, visited}
use Rattle.ir_runs.proofs.OperandLaws as operands
use Rattle.ir_runs.proofs.WidthLaws.{walk_fits}
use Rattle.ir_runner.specs.declared.code.BlockCode.{BlockCode}
use Rattle.ir_runner.specs.declared.code.Jump.{Jump}
use Rattle.ir_runner.specs.declared.code.PhiMove.{PhiMove}
use Rattle.ir_runner.specs.Code.{step_code, exit_code, move_code, block_code, code_of, phis_at, target, jump_to}
use Rattle.ir_runner.specs.Slots.{slots_after, CanRun, moved, CanMove}
use Rattle.ir_runner.specs.Leads.{Leads, Jumps, Stops, exit_leads, CanExit}
use Rattle.ir_runner.specs.LastRun.{labels_at}
use Rattle.ir_runner.specs.Place.{IsAt}
use Rattle.ir_runner.proofs.SlotLaws.{Holds, holds_same, Reads, reads}
use Rattle.ir_runner.proofs.BodyLaws.{names_more, assumed, After, Runs, body_runs}
use Rattle.ir_runner.proofs.PhiLaws.{Moves, phis_move}
use Rattle.ir_runner.proofs.ExitLaws.{IsTarget, IsLed, Ends, ends}

abbrev pub number : BlockId → ℕ
number block = block.0

abbrev front_items : Block → List Item
front_items block = map OfPhi block.phis ++ map OfInstr block.body

-- ---- blocks at their places

module _ (func : Func) (rules : Rules func) where
  pub label_is : (place : ℕ) (block : Block) → IsAt func place block → label_of func place ≡ block.label
  label_is place block at = get_or-map block_label func.blocks place block [] at.within ∙ ap block_label at.is

  pub phis_are : (place : ℕ) (block : Block) → IsAt func place block → phis_at func place ≡ block.phis
  phis_are place block at = get_or-map (λ (block : Block). block.phis) func.blocks place block [] at.within ∙ ap (λ (block : Block). block.phis) at.is

  pub at_label : (place : ℕ) (block : Block) → place < length func.blocks → label_of func place ≡ block.label → Contains func.blocks block → IsAt func place block
  at_label place block within is there =
      let found : Contains func.blocks (get_or func.blocks place block) = Contains-get_or func.blocks place block within in
      let label : label_of func place ≡ (get_or func.blocks place block).label = get_or-map block_label func.blocks place block [] within in
      record { within = within; is = same_block func rules.names (get_or func.blocks place block) block found there (sym label ∙ is) }

  pub code_is : (code : List BlockCode) → code ≡ code_of func → (place : ℕ) (block : Block) → IsAt func place block → (now : BlockCode) → now ≡ get_or code place now → now ≡ block_code func block
  code_is code are place block at now is =
      is ∙ ap (λ (all : List BlockCode). get_or all place now) are ∙ get_or-map (block_code func) func.blocks place block now at.within ∙ ap (block_code func) at.is

-- a walk ends at the block that doesn't lead on
pub walk_ends : (func : Func) (rules : Rules func) (args : List ℕ) (fits : AreArguments (widths_of func) args) (walked : List (List ℕ)) (vals : Vals) (last : Step) (ended : Ended func args walked vals last) (done : List Block) (block : Block)
    (stop : Step) → IsEnd stop → step_of func args vals block ≡ Some stop → (after : List Block) → ended.walk.blocks ≡ done ++ block ∷ after → Ended func args (map block_label (done ++ block ∷ [])) vals stop
walk_ends func rules args fits walked vals last ended done block stop is_end is [] are =
    let last_is : step_of func args vals block ≡ Some last = end_at func args vals done block last (subst (λ (all : List Block). EndsWith func args vals all last) are ended.ends) in
    let same : last ≡ stop = same_Some last stop (sym last_is ∙ is) in
    let labels : walked ≡ map block_label (done ++ block ∷ []) = (visited func rules args fits walked ended.walk.blocks ended.walk.visits).0 ∙ ap (map block_label) are in
    subst (λ (all : List (List ℕ)). Ended func args all vals stop) labels (subst (Ended func args walked vals) same ended)
walk_ends func rules args fits walked vals last ended done block stop is_end is (next ∷ after) are =
    let leads : step_of func args vals block ≡ Some (Goes next.label) = lead_at func args vals done block next after (subst (LeadOn func args vals) are ended.walk.follow) in
    absurd (goes_on_not stop next.label is_end (sym is ∙ leads))

-- A run stands at a block, behind its phis: its path is the front of the walk.
pub record Stands (func : Func) (args : List ℕ) (at : ℕ) (path : List BlockId) (slots : List Val) : Type 0 where
  pub walked : List (List ℕ)
  pub vals : Vals
  pub last : Step
  pub ended : Ended func args walked vals last
  pub done : List Block
  pub block : Block
  pub after : List Block
  pub are : ended.walk.blocks ≡ done ++ block ∷ after
  pub is_at : IsAt func at block
  pub labels : labels_at func path ≡ map block_label done ++ block.label ∷ []
  pub arrives : Arrives func done (leaving None done) block.label
  pub holds : Holds func vals slots (names_on func done ++ names_in (map OfPhi block.phis))
  pub places : All (λ (block : BlockId). block.0 < length func.blocks) path
  pub apart : IsDistinct eqb (map number path)

module _ (func : Func) (rules : Rules func) (args : List ℕ) (fits : AreArguments (widths_of func) args) (at : ℕ) (path : List BlockId) (slots : List Val) (s : Stands func args at path slots) where
  abbrev blocks : List Block
  blocks = s.ended.walk.blocks

  within : AreWithin func rules blocks
  within = (visited func rules args fits s.walked blocks s.ended.walk.visits).1

  there : Contains func.blocks s.block
  there = operands.there func rules s.vals blocks within s.ended.walk.names s.done s.block s.after s.are s.arrives

  before_within : AreWithin func rules s.done
  before_within = operands.before_within func rules s.vals blocks within s.ended.walk.names s.done s.block s.after s.are s.arrives

  comes : IsPathTo func (map block_label s.done ++ s.block.label ∷ []) s.block.label
  comes = operands.path func rules s.vals blocks within s.ended.walk.names s.done s.block s.after s.are s.arrives

  all_fit : AllFit func s.vals
  all_fit = walk_fits func args s.walked s.vals rules s.ended.walk

  valued : AllByRecursion (IsValued s.vals (leaving None s.done)) (items_of s.block)
  valued = valued_at s.vals None s.done s.block s.after (subst (AreValued s.vals None) s.are s.ended.walk.values)

  -- the path is no longer than there are blocks
  pub short : length path ≤ length func.blocks
  short =
      let all = length-le_from_distinct_below (map number path) (length func.blocks) s.apart below in
      omega (arith, all, length-map path number)
    where
      below : (place : ℕ) → list_any (eqb place) (map number path) ≡ true → place < length func.blocks
      below place is =
          let among : Contains (map number path) place = Contains-from_any {eq = eqb} (λ a b same. eqb-true a b same) place (map number path) is in
          let block = map_in number path place among in
          subst (λ (n : ℕ). n < length func.blocks) block.2 (All-contains (λ (block : BlockId). block.0 < length func.blocks) path block.0 s.places block.1)

  formed : (instr : Instr) → Contains s.block.body instr → IsFormedInstr instr
  formed instr among =
      let block : IsFormedBlock s.block = All-contains IsFormedBlock func.blocks s.block rules.formed.blocks there in
      All-contains IsFormedInstr s.block.body instr block.body among

  abbrev Body : List Instr → List Val → Type 0
  Body rest now = Runs func rules s.vals all_fit s.done before_within s.block there comes (leaving None s.done) valued rest now

  body : Body s.block.body slots
  body = body_runs func rules s.vals all_fit s.done before_within s.block there comes (leaving None s.done) valued (map OfPhi s.block.phis) s.block.body refl formed slots s.holds

  pub can_run : CanRun (map (step_code func) s.block.body) slots
  can_run = body.can

  abbrev Behind : Option (List Val) → Type 0
  Behind found = After func rules s.vals all_fit s.done before_within s.block there comes (leaving None s.done) valued s.block.body found

  behind : (found : Option (List Val)) → slots_after (map (step_code func) s.block.body) slots ≡ found → Behind found
  behind found is = subst Behind is body.after

  -- ---- where it leads

  step_assumed : (passed : Bool) → has_poison_argument func args ≡ false → list_all (assumed s.vals) s.block.body ≡ passed → step_of func args s.vals s.block ≡ cond passed (end_step func s.vals s.block.end) (Some (Fails cause.FalseAssume))
  step_assumed passed taken is = λ i. cond (taken i) (Some (Fails cause.PoisonArgument)) (cond (is i) (end_step func s.vals s.block.end) (Some (Fails cause.FalseAssume)))

  -- where the block ends the run, the walk ends
  pub ends_here : (stop : Step) → IsEnd stop → step_of func args s.vals s.block ≡ Some stop → Ended func args (labels_at func path) s.vals stop
  ends_here stop is_end is =
      subst (λ (all : List (List ℕ)). Ended func args all s.vals stop) (map-append block_label s.done (s.block ∷ []) ∙ sym s.labels)
      (walk_ends func rules args fits s.walked s.vals s.last s.ended s.done s.block stop is_end is s.after s.are)

  -- an assume doesn't hold
  pub falls : has_poison_argument func args ≡ false → slots_after (map (step_code func) s.block.body) slots ≡ None → Ended func args (labels_at func path) s.vals (Fails cause.FalseAssume)
  falls taken none = ends_here (Fails cause.FalseAssume) tt (step_assumed false taken (behind None none))

  -- all assumes hold
  module _ (taken : has_poison_argument func args ≡ false) (now : List Val) (ran : slots_after (map (step_code func) s.block.body) slots ≡ Some now) where
    passed : Behind (Some now)
    passed = behind (Some now) ran

    known : (name : List ℕ) → Contains (names_on func s.done ++ names_in (front_items s.block)) name → Contains (names_on func s.done ++ names_in (items_of s.block)) name
    known name among =
        subst (λ (given : List (List ℕ)). Contains given name) (names_more func s.done (front_items s.block) (OfEnd s.block.end) ∙ ap (λ (items : List Item). names_on func s.done ++ names_in items) items)
        (Contains-append_left (names_on func s.done ++ names_in (front_items s.block)) (item_names (OfEnd s.block.end)) name among)
      where
        items : front_items s.block ++ OfEnd s.block.end ∷ [] ≡ items_of s.block
        items = append_assoc (map OfPhi s.block.phis) (map OfInstr s.block.body) (OfEnd s.block.end ∷ [])

    end_reads : (value : Operand) (width : ℕ) → Contains (end_parts s.block.end) (Use value width) → Reads func s.vals now value
    end_reads value width used =
        reads func s.vals now (names_on func s.done ++ names_in (items_of s.block)) passed.1 value
        (λ name is. known name (item_known func rules s.done before_within s.block there (front_items s.block) [] (OfEnd s.block.end) (sym (append_assoc (map OfPhi s.block.phis) (map OfInstr s.block.body) (OfEnd s.block.end ∷ []))) (end_parts s.block.end) (λ site. refl) comes name width (subst (λ (o : Operand). Contains (end_parts s.block.end) (Use o width)) is used)))

    leads : Ends func rules s.block there now s.vals s.block.end
    leads = ends func rules s.block there now s.vals s.block.end (λ label among. among) end_reads

    pub can_exit : CanExit now (exit_code func s.block.label s.block.end)
    can_exit = leads.can

    step_is : step_of func args s.vals s.block ≡ Some leads.step
    step_is = step_assumed true taken passed.0 ∙ leads.is

    -- the terminator ends the run
    pub stops : (stop : Step) → IsEnd stop → exit_leads now (exit_code func s.block.label s.block.end) ≡ Stops stop → Ended func args (labels_at func path) s.vals stop
    stops stop is_end is =
        let same : leads.step ≡ stop = subst (λ (led : Leads). IsLed func rules s.block there led leads.step) is leads.led in
        ends_here stop is_end (step_is ∙ ap Some same)

    -- ---- it leads along an edge
    module _ (jump : Jump) (is : exit_leads now (exit_code func s.block.label s.block.end) ≡ Jumps jump) where
      -- the next block of the walk
      record Next : Type 0 where
        next : Block
        rest : List Block
        are : blocks ≡ s.done ++ s.block ∷ next ∷ rest
        low : jump.to.0 < length func.blocks
        label : label_of func jump.to.0 ≡ next.label
        jump_is : jump ≡ jump_to func s.block.label next.label
        goes : step_of func args s.vals s.block ≡ Some (Goes next.label)

      found : Next
      found =
          let led : IsLed func rules s.block there (Jumps jump) leads.step = subst (λ (led : Leads). IsLed func rules s.block there led leads.step) is leads.led in
          by_after s.after s.are led.0 led.2 led.3 (step_is ∙ ap Some led.4)
        where
          by_after : (after : List Block) → blocks ≡ s.done ++ s.block ∷ after → (label : List ℕ) → IsTarget func rules s.block there label → jump ≡ jump_to func s.block.label label → step_of func args s.vals s.block ≡ Some (Goes label) → Next
          by_after [] are label target_is jump_is goes =
              let last_is : step_of func args s.vals s.block ≡ Some s.last = end_at func args s.vals s.done s.block s.last (subst (λ (all : List Block). EndsWith func args s.vals all s.last) are s.ended.ends) in
              absurd (goes_on_not s.last label s.ended.stops (sym last_is ∙ goes))
          by_after (next ∷ after) are label target_is jump_is goes =
              let leads : step_of func args s.vals s.block ≡ Some (Goes next.label) = lead_at func args s.vals s.done s.block next after (subst (LeadOn func args s.vals) are s.ended.walk.follow) in
              let same : next.label ≡ label = goes_same next.label label (same_Some (Goes next.label) (Goes label) (sym leads ∙ goes)) in
              let place : jump.to.0 ≡ target func label = ap (λ (jump : Jump). jump.to.0) jump_is in
              record {
                next = next;
                rest = after;
                are = are;
                low = subst (λ (n : ℕ). n < length func.blocks) (sym place) target_is.within;
                label = ap (label_of func) place ∙ target_is.is ∙ sym same;
                jump_is = jump_is ∙ ap (jump_to func s.block.label) (sym same);
                goes = leads;
              }

      abbrev next : Block
      next = found.next

      next_there : Contains func.blocks next
      next_there = within next (subst (λ (all : List Block). Contains all next) (sym found.are) (Contains-append_right s.done (s.block ∷ next ∷ found.rest) next (later next)))
        where
          later : (other : Block) → Contains (s.block ∷ other ∷ found.rest) other
          later other = (1, omega arith, refl)

      next_at : IsAt func jump.to.0 next
      next_at = at_label func rules jump.to.0 next found.low found.label next_there

      pub low : jump.to.0 < length func.blocks
      low = found.low

      pub goes_to : GoesTo func (label_of func at) (label_of func jump.to.0)
      goes_to =
          let goes : GoesTo func s.block.label next.label = (s.block, there, refl, step_target func args s.vals s.block next.label found.goes) in
          subst (λ (from : List ℕ). GoesTo func from (label_of func jump.to.0)) (sym (label_is func rules at s.block s.is_at)) (subst (GoesTo func s.block.label) (sym found.label) goes)

      -- the blocks up to this one
      abbrev walked_now : List Block
      walked_now = s.done ++ s.block ∷ []

      labels_now : map block_label walked_now ≡ map block_label s.done ++ s.block.label ∷ []
      labels_now = map-append block_label s.done (s.block ∷ [])

      are_now : blocks ≡ walked_now ++ next ∷ found.rest
      are_now = found.are ∙ sym (append_assoc s.done (s.block ∷ []) (next ∷ found.rest))

      arrives_now : Arrives func walked_now (leaving None walked_now) next.label
      arrives_now = operands.arrives_next func rules s.vals blocks within s.ended.walk.names args s.ended.walk.follow s.done s.block next found.rest found.are s.arrives

      along : Arrives func walked_now (Some s.block.label) next.label
      along = subst (λ (before : Option (List ℕ)). Arrives func walked_now before next.label) (leaving_push None s.done s.block) arrives_now

      within_now : AreWithin func rules walked_now
      within_now = operands.before_within func rules s.vals blocks within s.ended.walk.names walked_now next found.rest are_now arrives_now

      valued_now : AllByRecursion (IsValued s.vals (Some s.block.label)) (items_of next)
      valued_now =
          subst (λ (before : Option (List ℕ)). AllByRecursion (IsValued s.vals before) (items_of next)) (leaving_push None s.done s.block)
          (valued_at s.vals None walked_now next found.rest (subst (AreValued s.vals None) are_now s.ended.walk.values))

      holds_now : Holds func s.vals now (names_on func walked_now ++ names_in [])
      holds_now =
          holds_same func s.vals now (names_on func s.done ++ names_in (items_of s.block)) (names_on func walked_now ++ names_in []) (names_push func s.done s.block ∙ sym (append-nil (names_on func walked_now))) passed.1

      moves : Moves func rules s.vals walked_now within_now next next_there s.block.label along.0 along.1 valued_now next.phis [] now
      moves = phis_move func rules s.vals walked_now within_now next next_there s.block.label along.0 along.1 valued_now [] next.phis (map OfInstr next.body ++ OfEnd next.end ∷ []) refl now holds_now

      moves_are : map (move_code func s.block.label) next.phis ≡ jump.moves
      moves_are =
          let place : target func next.label ≡ jump.to.0 = ap (λ (jump : Jump). jump.to.0) (sym found.jump_is) in
          ap (map (move_code func s.block.label)) (sym (phis_are func rules jump.to.0 next next_at) ∙ ap (phis_at func) (sym place)) ∙ ap (λ (jump : Jump). jump.moves) (sym found.jump_is)

      pub can_move : CanMove jump.moves now
      can_move = subst (λ (all : List PhiMove). CanMove all now) moves_are moves.can

      new_place : list_any (eqb jump.to.0) (map number path) ≡ false
      new_place = by_test (list_any (eqb jump.to.0) (map number path)) refl
        where
          by_test : (b : Bool) → list_any (eqb jump.to.0) (map number path) ≡ b → list_any (eqb jump.to.0) (map number path) ≡ false
          by_test false is = is
          by_test true is =
              let among : Contains (map number path) jump.to.0 = Contains-from_any {eq = eqb} (λ a b same. eqb-true a b same) jump.to.0 (map number path) is in
              let block = map_in number path jump.to.0 among in
              let label : Contains (labels_at func path) (label_of func block.0.0) = in_map (λ (block : BlockId). label_of func block.0) path block.0 block.1 in
              let again : Contains (labels_at func path) next.label = subst (λ (name : List ℕ). Contains (labels_at func path) name) (ap (label_of func) block.2 ∙ found.label) label in
              absurd (no_return func rules.acyclic (map block_label walked_now) s.block.label next.label along.0 along.1 (subst (λ (labels : List (List ℕ)). Contains labels next.label) (s.labels ∙ sym labels_now) again))

      pub goes_on : Stands func args jump.to.0 (path ++ jump.to ∷ []) (moved jump.moves now)
      goes_on = record {
        walked = s.walked;
        vals = s.vals;
        last = s.last;
        ended = s.ended;
        done = walked_now;
        block = next;
        after = found.rest;
        are = are_now;
        is_at = next_at;
        labels =
            map-append (λ (block : BlockId). label_of func block.0) path (jump.to ∷ [])
            ∙ (λ i. (s.labels ∙ sym labels_now) i ++ found.label i ∷ []);
        arrives = arrives_now;
        holds = subst (λ (all : List PhiMove). Holds func s.vals (moved all now) (names_on func walked_now ++ names_in (map OfPhi next.phis))) moves_are moves.holds;
        places = All-push (λ (block : BlockId). block.0 < length func.blocks) path jump.to s.places found.low;
        apart = subst (IsDistinct eqb) (sym (map-append number path (jump.to ∷ []))) (IsDistinct-push nat_eq_equiv (map number path) jump.to.0 s.apart new_place);
      }
