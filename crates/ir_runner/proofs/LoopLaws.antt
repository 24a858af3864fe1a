-- A turn of a run: from one block of a path to the next, or to the end.
use Rattle.std.proofs.Common.{◌≡◌, ◌<◌, ◌≤◌, ◌+◌, ℕ, List, [], ◌∷◌, ◌++◌, length, map, Bool, true, false, cond, get_or, Some, None, refl, sym, ◌∙◌, ap, subst, arith}
use Rattle.std.proofs.lemmas.List.{map-append, length-append}
use Rattle.wx_base.specs.Args.{AreArguments}
use Rattle.ll_tree.specs.declared.func.Func.{Func}
use Rattle.ll_links.specs.declared.link.BlockId.{BlockId}
use Rattle.ll_flow.specs.Paths.{label_of, GoesTo}
use Rattle.ll_verifier.specs.Rules.{Rules}
use Rattle.ir_meaning.specs.declared.value.Val.{Val}
use Rattle.ir_runs.specs.Walk.{Returns, Fails, has_poison_argument, widths_of}
use Rattle.ir_runs.specs.Costs.{LabelCosts, path_cost}
use Rattle.ir_runs.specs.Answer.{IsAnswer}
use Rattle.ir_runs.specs.declared.ret_val.RetVal.{RetVal}
use Rattle.ir_runs.specs.declared.run_end.RunEnd.TheVariants.{Done, Undefined}
use Rattle.ir_runs.specs.declared.undefined.UndefinedCause.{UndefinedCause}
use Rattle.ir_runs.specs.declared.undefined.UndefinedCause.TheVariants as cause
use Rattle.ir_runs.proofs.UsedLaws.{block_label}
use Rattle.ir_runs.proofs.WalkLaws.{Ended}
use Rattle.ir_runner.specs.declared.code.BlockCode.{BlockCode}
use Rattle.ir_runner.specs.declared.code.Jump.{Jump}
use Rattle.ir_runner.specs.declared.code.Step.{Step as CodeStep}
use Rattle.ir_runner.specs.Code.{step_code, exit_code, code_of}
use Rattle.ir_runner.specs.Slots.{slots_after, CanRun, moved, CanMove}
use Rattle.ir_runner.specs.Leads.{Jumps, Stops, exit_leads, CanExit}
use Rattle.ir_runner.specs.LastRun.{labels_at}
use Rattle.ir_runner.proofs.CostLaws.{cost_push}
use Rattle.ir_runner.proofs.StartLaws.{done_answer, stuck_answer}
use Rattle.ir_runner.proofs.TurnLaws as turn
use Rattle.ir_runner.proofs.TurnLaws.{Stands, label_is, code_is}

module _ (func : Func) (rules : Rules func) (args : List ℕ) (fits : AreArguments (widths_of func) args) (costs : LabelCosts) (code : List BlockCode) (are : code ≡ code_of func)
    (at : ℕ) (path : List BlockId) (slots : List Val) (s : Stands func args at path slots) (now : BlockCode) (there : now ≡ get_or code at now) (steps : List CodeStep) (steps_are : steps ≡ now.steps) where
  body : steps ≡ map (step_code func) s.block.body
  body = steps_are ∙ ap (λ (code : BlockCode). code.steps) (code_is func rules code are at s.block s.is_at now there)

  exit_is : now.exit ≡ exit_code func s.block.label s.block.end
  exit_is = ap (λ (code : BlockCode). code.exit) (code_is func rules code are at s.block s.is_at now there)

  pub can_run : CanRun steps slots
  can_run = subst (λ (all : List CodeStep). CanRun all slots) (sym body) (turn.can_run func rules args fits at path slots s)

  labels : labels_at func path ≡ map block_label s.done ++ label_of func at ∷ []
  labels = s.labels ∙ ap (λ (label : List ℕ). map block_label s.done ++ label ∷ []) (sym (label_is func rules at s.block s.is_at))

  fails : (why : UndefinedCause) → Ended func args (labels_at func path) s.vals (Fails why) → IsAnswer func costs args (labels_at func path) (Undefined at why)
  fails why ended = stuck_answer func costs args (labels_at func path) s.vals why at s.is_at.within ended (map block_label s.done) labels

  module _ (taken : has_poison_argument func args ≡ false) (after : List Val) (passed : Bool) (ran : slots_after steps slots ≡ cond passed (Some after) None) where
    all_ran : (b : Bool) → passed ≡ b → slots_after (map (step_code func) s.block.body) slots ≡ cond b (Some after) None
    all_ran b is = ap (λ (all : List CodeStep). slots_after all slots) (sym body) ∙ ran ∙ ap (λ (b : Bool). cond b (Some after) None) is

    pub falls : passed ≡ false → IsAnswer func costs args (labels_at func path) (Undefined at cause.FalseAssume)
    falls is = fails cause.FalseAssume (turn.falls func rules args fits at path slots s taken (all_ran false is))

    module _ (is : passed ≡ true) where
      abbrev ran_to : slots_after (map (step_code func) s.block.body) slots ≡ Some after
      ran_to = all_ran true is

      pub can_exit : CanExit after now.exit
      can_exit = subst (CanExit after) (sym exit_is) (turn.can_exit func rules args fits at path slots s taken after ran_to)

      pub returns : (result : RetVal) (cost : ℕ) → exit_leads after now.exit ≡ Stops (Returns result) → cost ≡ path_cost costs (labels_at func path) → IsAnswer func costs args (labels_at func path) (Done result cost)
      returns result cost leads cost_is =
          done_answer func costs args (labels_at func path) s.vals result cost
          (turn.stops func rules args fits at path slots s taken after ran_to (Returns result) tt (ap (exit_leads after) (sym exit_is) ∙ leads)) cost_is

      pub sticks : (why : UndefinedCause) → exit_leads after now.exit ≡ Stops (Fails why) → IsAnswer func costs args (labels_at func path) (Undefined at why)
      sticks why leads = fails why (turn.stops func rules args fits at path slots s taken after ran_to (Fails why) tt (ap (exit_leads after) (sym exit_is) ∙ leads))

      module _ (jump : Jump) (leads : exit_leads after now.exit ≡ Jumps jump) where
        abbrev led : exit_leads after (exit_code func s.block.label s.block.end) ≡ Jumps jump
        led = ap (exit_leads after) (sym exit_is) ∙ leads

        pub low : jump.to.0 < length func.blocks
        low = turn.low func rules args fits at path slots s taken after ran_to jump led

        pub goes_to : GoesTo func (label_of func at) (label_of func jump.to.0)
        goes_to = turn.goes_to func rules args fits at path slots s taken after ran_to jump led

        pub can_move : CanMove jump.moves after
        can_move = turn.can_move func rules args fits at path slots s taken after ran_to jump led

        pub goes_on : (path_now : List BlockId) → path_now ≡ path ++ jump.to ∷ [] → (slots_now : List Val) → slots_now ≡ moved jump.moves after → Stands func args jump.to.0 path_now slots_now
        goes_on path_now path_is slots_now slots_are =
            subst (λ (all : List BlockId). Stands func args jump.to.0 all slots_now) (sym path_is)
            (subst (Stands func args jump.to.0 (path ++ jump.to ∷ [])) (sym slots_are) (turn.goes_on func rules args fits at path slots s taken after ran_to jump led))

        -- the path has room
        pub shorter : length path + 1 ≤ length func.blocks
        shorter =
            let all = turn.short func rules args fits jump.to.0 (path ++ jump.to ∷ []) (moved jump.moves after) (goes_on (path ++ jump.to ∷ []) refl (moved jump.moves after) refl) in
            omega (arith, all, length-append path (jump.to ∷ []))

        pub costs_more : (path_now : List BlockId) → path_now ≡ path ++ jump.to ∷ [] → (cost edge block cost_now : ℕ) → cost ≡ path_cost costs (labels_at func path) → edge ≡ costs.edge (label_of func at) (label_of func jump.to.0) → block ≡ costs.block (label_of func jump.to.0) → cost_now ≡ cost + (edge + block)
            → cost_now ≡ path_cost costs (labels_at func path_now)
        costs_more path_now path_is cost edge block cost_now cost_is edge_is block_is sum =
            let more = cost_push costs (map block_label s.done) (label_of func at) (label_of func jump.to.0) in
            let before : path_cost costs (labels_at func path) ≡ path_cost costs (map block_label s.done ++ label_of func at ∷ []) = ap (path_cost costs) labels in
            let now : labels_at func path_now ≡ (map block_label s.done ++ label_of func at ∷ []) ++ label_of func jump.to.0 ∷ [] =
            ap (labels_at func) path_is ∙ map-append (λ (block : BlockId). label_of func block.0) path (jump.to ∷ []) ∙ ap (λ (front : List (List ℕ)). front ++ label_of func jump.to.0 ∷ []) labels in
            sum ∙ (λ i. (cost_is ∙ before) i + (edge_is i + block_is i)) ∙ sym more ∙ sym (ap (path_cost costs) now)
