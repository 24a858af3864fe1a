-- A turn of a run over numbers: from one block of a path to the next, or to the end.
use Rattle.std.proofs.Common.{◌≡◌, ◌<◌, ◌+◌, ◌++◌, ℕ, List, [], ◌∷◌, length, map, true, false, cond, get_or, Some, None, refl, sym, ◌∙◌, ap, subst, arith}
use Rattle.std.proofs.lemmas.List.{length-map}
use Rattle.std.proofs.lemmas.List.Elements.{All-contains}
use Rattle.wx_base.specs.Args.{AreArguments}
use Rattle.ll_tree.specs.declared.func.Func.{Func}
use Rattle.ll_links.specs.declared.link.BlockId.{BlockId}
use Rattle.ll_verifier.specs.Rules.{Rules}
use Rattle.ir_meaning.specs.declared.value.Val.{Val}
use Rattle.ir_meaning.specs.declared.value.Val.TheVariants.{Num}
use Rattle.ir_runs.specs.Walk.{has_poison_argument, widths_of}
use Rattle.ir_runs.specs.Costs.{LabelCosts, path_cost, Reached}
use Rattle.ir_runner.specs.declared.code.BlockCode.{BlockCode}
use Rattle.ir_runner.specs.declared.code.Jump.{Jump}
use Rattle.ir_runner.specs.declared.code.Step.{Step}
use Rattle.ir_runner.specs.Code.{block_code, code_of}
use Rattle.ir_runner.specs.LastRun.{labels_at}
use Rattle.ir_runner.specs.Slots.{slots_after, CanRun}
use Rattle.ir_runner.specs.Leads.{Jumps, exit_leads}
use Rattle.ir_runner.proofs.LowerLaws.{element}
use Rattle.ir_runner.proofs.LoopLaws as turn
use Rattle.ir_runner.proofs.TurnLaws.{Stands}
use Rattle.number_runner.specs.declared.code.NumberBlock.{NumberBlock}
use Rattle.number_runner.specs.declared.leave.Way.TheVariants as way
use Rattle.number_runner.specs.Steps.{step_of}
use Rattle.number_runner.specs.Stands.{jump_of, tail_of}
use Rattle.number_runner.specs.Costs.{IsPriced, jumps_of, IsBlock, AreBlocks}
use Rattle.number_runner.specs.Ways.{CanLeave, GoesOn, Ends}
use Rattle.number_runner.proofs.StepLaws.{after_append, can_front, can_back}

module _ (func : Func) (rules : Rules func) (args : List ℕ) (fits : AreArguments (widths_of func) args) (taken : has_poison_argument func args ≡ false) (costs : LabelCosts) (blocks : List NumberBlock) (count : length blocks ≡ length func.blocks) (are : AreBlocks func costs (code_of func) blocks)
    (at : ℕ) (path : List BlockId) (numbers : List ℕ) (s : Stands func args at path (map Num numbers)) where
  pub within : at < length blocks
  within = omega (arith, s.is_at.within, count)

  module _ (block : NumberBlock) (here : block ≡ get_or blocks at block) where
    code_at : (code : BlockCode) × (code ≡ get_or (code_of func) at code)
    code_at = element (code_of func) at (subst (λ (n : ℕ). at < n) (sym (length-map func.blocks (block_code func))) s.is_at.within)

    abbrev code : BlockCode
    code = code_at.0

    is_block : IsBlock func costs at code block
    is_block = are at code block within (sym code_at.1) (sym here)

    pub can_steps : CanRun (map step_of block.steps) (map Num numbers)
    can_steps =
        can_front (map step_of block.steps) (tail_of block.exit) (map Num numbers)
        (subst (λ (steps : List Step). CanRun steps (map Num numbers)) is_block.stands.steps (turn.can_run func rules args fits costs (code_of func) refl at path (map Num numbers) s code code_at.1 code.steps refl))

    module _ (now : List ℕ) (ran : slots_after (map step_of block.steps) (map Num numbers) ≡ Some (map Num now)) where
      -- the whole block leads there too
      all_ran : (after : List Val) → slots_after (tail_of block.exit) (map Num now) ≡ Some after → slots_after code.steps (map Num numbers) ≡ cond true (Some after) None
      all_ran after tail =
          ap (λ (steps : List Step). slots_after steps (map Num numbers)) is_block.stands.steps
          ∙ after_append (map step_of block.steps) (tail_of block.exit) (map Num numbers) (map Num now) ran
          ∙ tail

      pub can_leave : CanLeave (map Num now) block.exit
      can_leave = record {
        code = code.exit;
        is = is_block.stands.exit;
        tail =
            can_back (map step_of block.steps) (tail_of block.exit) (map Num numbers) (map Num now)
            (subst (λ (steps : List Step). CanRun steps (map Num numbers)) is_block.stands.steps (turn.can_run func rules args fits costs (code_of func) refl at path (map Num numbers) s code code_at.1 code.steps refl))
            ran;
        ends = λ after tail. turn.can_exit func rules args fits costs (code_of func) refl at path (map Num numbers) s code code_at.1 code.steps refl taken after true (all_ran after tail) refl;
        moves = λ after jump tail leads. turn.can_move func rules args fits costs (code_of func) refl at path (map Num numbers) s code code_at.1 code.steps refl taken after true (all_ran after tail) refl jump leads;
      }

      pub reached : (cost : ℕ) → cost ≡ path_cost costs (labels_at func path) → Ends now block.exit → Reached func costs cost args
      reached cost cost_is ends =
          let it = ends.ends code.exit is_block.stands.exit in
          let answer = turn.returns func rules args fits costs (code_of func) refl at path (map Num numbers) s code code_at.1 code.steps refl taken ends.slots true (all_ran ends.slots ends.ran) refl it.0 cost it.1 cost_is in
          record { path = labels_at func path; vals = answer.0.0; result = it.0; run = answer.0.1; cost = sym answer.1 }

      module _ (after : List ℕ) (to : BlockId) (edge cost_of : ℕ) (goes : GoesOn now block.exit after (way.To to edge cost_of)) where
        abbrev jump : Jump
        jump = jump_of goes.jump

        leads : exit_leads goes.slots code.exit ≡ Jumps jump
        leads = goes.leads code.exit is_block.stands.exit

        priced : IsPriced func costs at goes.jump
        priced = All-contains (IsPriced func costs at) (jumps_of block.exit) goes.jump is_block.priced goes.among

        pub path_on : List BlockId
        path_on = path ++ to ∷ []

        path_is : path ++ to ∷ [] ≡ path ++ jump.to ∷ []
        path_is = ap (λ (id : BlockId). path ++ id ∷ []) goes.along.1

        pub stands_on : Stands func args to.0 (path ++ to ∷ []) (map Num after)
        stands_on =
            subst (λ (id : BlockId). Stands func args id.0 (path ++ to ∷ []) (map Num after)) (sym goes.along.1)
            (turn.goes_on func rules args fits costs (code_of func) refl at path (map Num numbers) s code code_at.1 code.steps refl taken goes.slots true (all_ran goes.slots goes.ran) refl jump leads (path ++ to ∷ []) path_is (map Num after) goes.along.0)

        pub cost_on : (cost : ℕ) → cost ≡ path_cost costs (labels_at func path) → cost + (edge + cost_of) ≡ path_cost costs (labels_at func (path ++ to ∷ []))
        cost_on cost cost_is =
            turn.costs_more func rules args fits costs (code_of func) refl at path (map Num numbers) s code code_at.1 code.steps refl taken goes.slots true (all_ran goes.slots goes.ran) refl jump leads (path ++ to ∷ []) path_is cost edge cost_of (cost + (edge + cost_of)) cost_is
            (goes.along.2 ∙ priced.edge) (goes.along.3 ∙ priced.block) refl
