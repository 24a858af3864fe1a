-- Where a block leads, by slots and by names.
use Rattle.std.proofs.Common.{◌≡◌, ◌<◌, ℕ, List, [], ◌∷◌, length, map, Bool, true, false, cond, eqb, Option, Some, None, option_map, refl, ◌∙◌, ap, subst, arith}
use Rattle.std.specs.Prelude.{Contains}
use Rattle.std.specs.Option.{unwrap_or}
use Rattle.std.specs.Map.{lookup}
use Rattle.std.proofs.lemmas.List.{length-map}
use Rattle.ll_tree.specs.declared.func.Func.{Func}
use Rattle.ll_tree.specs.declared.block.Block.{Block}
use Rattle.ll_tree.specs.declared.block.Case.{Case}
use Rattle.ll_tree.specs.declared.block.Operand.{Operand}
use Rattle.ll_tree.specs.declared.block.End.{End}
use Rattle.ll_tree.specs.declared.block.End.TheVariants as end
use Rattle.ll_rules.specs.Items.{Use, Goal, end_parts, targets_of, labels_of}
use Rattle.name_table.specs.Names.{place_of}
use Rattle.ll_flow.specs.Paths.{label_of}
use Rattle.ll_flow.proofs.PlaceLaws.{absent, found_at}
use Rattle.ll_verifier.specs.Rules.{Rules}
use Rattle.ir_meaning.specs.declared.value.Val.{Val}
use Rattle.ir_meaning.specs.declared.value.Val.TheVariants.{Poison, Num}
use Rattle.ir_runs.specs.Values.{Vals}
use Rattle.ir_runs.specs.Walk.{Step, Goes, Returns, Fails, branch, choose, return_of, end_step}
use Rattle.ir_runs.specs.declared.ret_val.RetVal.TheVariants as ret
use Rattle.ir_runs.specs.declared.undefined.UndefinedCause.TheVariants as cause
use Rattle.ir_runs.proofs.MemberLaws.{in_here, in_there, in_map}
use Rattle.ir_runs.proofs.UsedLaws.{block_label}
use Rattle.ir_runs.proofs.EntryLaws.{target_there}
use Rattle.ir_runner.specs.declared.code.CaseCode.{CaseCode}
use Rattle.ir_runner.specs.declared.code.Jump.{Jump}
use Rattle.ir_runner.specs.Code.{source_code, target, jump_to, case_code, exit_code}
use Rattle.ir_runner.specs.Slots.{slot_value}
use Rattle.ir_runner.specs.Leads.{Leads, Jumps, Stops, branch_leads, switch_leads, exit_leads, CanExit, case_jump}
use Rattle.ir_runner.proofs.SlotLaws.{Reads}

module _ (func : Func) (rules : Rules func) (block : Block) (there : Contains func.blocks block) where
  -- ---- targets by their places

  -- a target's place has its label
  pub record IsTarget (label : List ℕ) : Type 0 where
    pub within : target func label < length func.blocks
    pub is : label_of func (target func label) ≡ label

  pub target_is : (label : List ℕ) → Contains (targets_of block.end) label → IsTarget label
  target_is label among =
      let to = target_there func rules block there label among in
      by_place (place_of label (labels_of func)) refl (subst (λ (l : List ℕ). Contains (labels_of func) l) to.2 (in_map block_label func.blocks to.0 to.1))
    where
      by_place : (found : Option ℕ) → place_of label (labels_of func) ≡ found → Contains (labels_of func) label → IsTarget label
      by_place None is among = absurd (absent label (labels_of func) is among)
      by_place (Some place) is among =
          let at : target func label ≡ place = ap (λ (found : Option ℕ). unwrap_or found 0) is in
          let low = found_at label (labels_of func) place is in
          record {
            within = omega (arith, at, low.0, length-map func.blocks block_label);
            is = ap (label_of func) at ∙ low.1;
          }

  -- ---- what is led to

  -- An edge to a target, or an end: and the same step.
  abbrev pub IsLed : Leads → Step → Type 0
  IsLed (Jumps jump) step = (label : List ℕ) × Contains (targets_of block.end) label × IsTarget label × (jump ≡ jump_to func block.label label) × (step ≡ Goes label)
  IsLed (Stops stop) step = step ≡ stop

  module _ (slots : List Val) where
    abbrev to : List ℕ → Jump
    to label = jump_to func block.label label

    goes : (label : List ℕ) → Contains (targets_of block.end) label → IsLed (Jumps (to label)) (Goes label)
    goes label among = (label, among, target_is label among, refl, refl)

    branched : (on_one on_zero : List ℕ) → Contains (targets_of block.end) on_one → Contains (targets_of block.end) on_zero → (val : Val) → IsLed (branch_leads (to on_one) (to on_zero) val) (branch on_one on_zero val)
    branched on_one on_zero one zero Poison = refl
    branched on_one on_zero one zero (Num n) = by_test (eqb n 1)
      where
        by_test : (b : Bool) → IsLed (Jumps (cond b (to on_one) (to on_zero))) (Goes (cond b on_one on_zero))
        by_test true = goes on_one one
        by_test false = goes on_zero zero

    abbrev pair : Case → ℕ × List ℕ
    pair case = (case.value, case.to)

    abbrev code_pair : CaseCode → ℕ × Jump
    code_pair case = (case.value, case.jump)

    cased : (n : ℕ) (default : List ℕ) (cases : List Case) → Contains (targets_of block.end) default → ((label : List ℕ) → Contains (map (λ (case : Case). case.to) cases) label → Contains (targets_of block.end) label)
        → IsLed (Jumps (case_jump n (to default) (map (case_code func block.label) cases))) (Goes (unwrap_or (lookup (λ value. eqb value n) (map pair cases)) default))
    cased n default [] first others = goes default first
    cased n default (case ∷ cases) first others =
        by_test (eqb case.value n) (cased n default cases first (λ label among. others label (in_there case.to label (map (λ (case : Case). case.to) cases) among)))
      where
        by_test : (b : Bool) → IsLed (Jumps (case_jump n (to default) (map (case_code func block.label) cases))) (Goes (unwrap_or (lookup (λ value. eqb value n) (map pair cases)) default))
            → IsLed (Jumps (unwrap_or (cond b (Some (to case.to)) (lookup (λ value. eqb value n) (map code_pair (map (case_code func block.label) cases)))) (to default)))
            (Goes (unwrap_or (cond b (Some case.to) (lookup (λ value. eqb value n) (map pair cases))) default))
        by_test true later = goes case.to (others case.to (in_here case.to (map (λ (case : Case). case.to) cases)))
        by_test false later = later

    switched : (default : List ℕ) (cases : List Case) → Contains (targets_of block.end) default → ((label : List ℕ) → Contains (map (λ (case : Case). case.to) cases) label → Contains (targets_of block.end) label)
        → (val : Val) → IsLed (switch_leads (to default) (map (case_code func block.label) cases) val) (choose default cases val)
    switched default cases first others Poison = refl
    switched default cases first others (Num n) = cased n default cases first others

    -- The terminator on slots leads where that on names does.
    pub record Ends (vals : Vals) (terminator : End) : Type 0 where
      pub can : CanExit slots (exit_code func block.label terminator)
      pub step : Step
      pub is : end_step func vals terminator ≡ Some step
      pub led : IsLed (exit_leads slots (exit_code func block.label terminator)) step

    pub ends : (vals : Vals) (terminator : End) → ((label : List ℕ) → Contains (targets_of terminator) label → Contains (targets_of block.end) label) → ((value : Operand) (width : ℕ) → Contains (end_parts terminator) (Use value width) → Reads func vals slots value) → Ends vals terminator
    ends vals end.RetVoid among all = record { can = tt; step = Returns ret.Void; is = refl; led = refl }
    ends vals (end.Ret width value) among all =
        let read = all value width (in_here (Use value width) []) in
        record { can = read.there; step = return_of func width (slot_value slots (source_code func value)); is = ap (option_map (return_of func width)) read.is; led = refl }
    ends vals (end.Br label) among all = record { can = tt; step = Goes label; is = refl; led = goes label (among label (in_here label [])) }
    ends vals (end.CondBr condition on_one on_zero) among all =
        let read = all condition 1 (in_here (Use condition 1) (Goal on_one ∷ Goal on_zero ∷ [])) in
        let val : Val = slot_value slots (source_code func condition) in
        record {
          can = read.there;
          step = branch on_one on_zero val;
          is = ap (option_map (branch on_one on_zero)) read.is;
          led = branched on_one on_zero (among on_one (in_here on_one (on_zero ∷ []))) (among on_zero (in_there on_one on_zero (on_zero ∷ []) (in_here on_zero []))) val;
        }
    ends vals (end.Switch width value default cases) among all =
        let read = all value width (in_here (Use value width) (Goal default ∷ map (λ case. Goal case.to) cases)) in
        let val : Val = slot_value slots (source_code func value) in
        record {
          can = read.there;
          step = choose default cases val;
          is = ap (option_map (choose default cases)) read.is;
          led = switched default cases (among default (in_here default (map (λ (case : Case). case.to) cases))) (λ label later. among label (in_there default label (map (λ (case : Case). case.to) cases) later)) val;
        }
    ends vals end.Unreachable among all = record { can = tt; step = Fails cause.Unreachable; is = refl; led = refl }
