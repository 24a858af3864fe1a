-- Where a block leads: it stays while values are added, and it is a target of the block.
use Rattle.std.proofs.Common.{◌≡◌, ◌⊎◌, inl, inr, ℕ, List, [], ◌∷◌, map, Bool, true, false, cond, ◌&&◌, eqb, Option, Some, None, option_map, refl, sym, ◌∙◌, ap, subst}
use Rattle.std.specs.Prelude.{Contains}
use Rattle.std.specs.Option.{unwrap_or}
use Rattle.std.specs.List.{list_all}
use Rattle.std.specs.Map.{lookup}
use Rattle.std.proofs.lemmas.Bool.{cond_both}
use Rattle.std.proofs.lemmas.Option.{none-some, same_Some}
use Rattle.ll_tree.specs.declared.func.Func.{Func}
use Rattle.ll_tree.specs.declared.block.Block.{Block}
use Rattle.ll_tree.specs.declared.block.Case.{Case}
use Rattle.ll_tree.specs.declared.block.Instr.{Instr}
use Rattle.ll_tree.specs.declared.block.Operand.{Operand}
use Rattle.ll_tree.specs.declared.block.End.{End}
use Rattle.ll_tree.specs.declared.block.End.TheVariants as end
use Rattle.ll_tree.specs.declared.op.Op.{Op}
use Rattle.ll_tree.specs.declared.op.Op.TheVariants.{Bin, Cmp, Cast, Select, Abs, Assume}
use Rattle.ll_rules.specs.Items.{Use, Goal, op_parts, end_parts, targets_of}
use Rattle.ir_meaning.specs.declared.value.Val.{Val}
use Rattle.ir_meaning.specs.declared.value.Val.TheVariants.{Poison, Num}
use Rattle.ir_meaning.specs.Value.{on_number}
use Rattle.ir_runs.specs.Values.{Vals, ranged, operand_value}
use Rattle.ir_runs.specs.Walk.{Step, Goes, Returns, Fails, branch, choose, give, return_of, end_step, is_one, is_assumed, has_poison_argument, step_of}
use Rattle.ir_runs.specs.declared.undefined.UndefinedCause.TheVariants as cause
use Rattle.ir_runs.proofs.MemberLaws.{in_here, in_there}
use Rattle.ir_runs.proofs.ValueLaws.{one_some, IsThere, AllThere, Grows, operand_same, there_grows}

-- The operands that lead on from a block have values.
pub record IsReady (vals : Vals) (block : Block) : Type 0 where
  pub body : (instr : Instr) → Contains block.body instr → AllThere vals (op_parts instr.op)
  pub ends : AllThere vals (end_parts block.end)

abbrev Has : Option Step → Type 0
Has found = (step : Step) × (found ≡ Some step)

-- ---- a block that is ready leads somewhere

cond_has : (b : Bool) (x y : Option Step) → Has x → Has y → Has (cond b x y)
cond_has true x y has_x has_y = has_x
cond_has false x y has_x has_y = has_y

mapped_has : (f : Val → Step) (vals : Vals) (value : Operand) → IsThere vals value → Has (option_map f (operand_value vals value))
mapped_has f vals value (val, is) = (f val, ap (option_map f) is)

end_has : (func : Func) (vals : Vals) (terminator : End) → AllThere vals (end_parts terminator) → Has (end_step func vals terminator)
end_has func vals end.RetVoid all = (_, refl)
end_has func vals (end.Ret width value) all = mapped_has (return_of func width) vals value (all value width (in_here (Use value width) []))
end_has func vals (end.Br to) all = (_, refl)
end_has func vals (end.CondBr condition on_one on_zero) all = mapped_has (branch on_one on_zero) vals condition (all condition 1 (in_here (Use condition 1) (Goal on_one ∷ Goal on_zero ∷ [])))
end_has func vals (end.Switch width value default cases) all = mapped_has (choose default cases) vals value (all value width (in_here (Use value width) (Goal default ∷ map (λ case. Goal case.to) cases)))
end_has func vals end.Unreachable all = (_, refl)

pub step_has : (func : Func) (args : List ℕ) (vals : Vals) (block : Block) → IsReady vals block → Has (step_of func args vals block)
step_has func args vals block ready =
    cond_has (has_poison_argument func args) (Some (Fails cause.PoisonArgument)) (cond (list_all (λ instr. is_assumed vals instr.op) block.body) (end_step func vals block.end) (Some (Fails cause.FalseAssume))) (_, refl)
    (cond_has (list_all (λ instr. is_assumed vals instr.op) block.body) (end_step func vals block.end) (Some (Fails cause.FalseAssume)) (end_has func vals block.end ready.ends) (_, refl))

-- ---- it stays while values are added

module _ (vals more : Vals) (grows : Grows vals more) where
  assumed_same : (op : Op) → AllThere vals (op_parts op) → is_assumed more op ≡ is_assumed vals op
  assumed_same (Bin kind flags width left right) all = refl
  assumed_same (Cmp pred flags width left right) all = refl
  assumed_same (Cast kind flags from arg to) all = refl
  assumed_same (Select width condition first second) all = refl
  assumed_same (Abs width arg strict) all = refl
  assumed_same (Assume condition) all = ap is_one (operand_same vals more grows condition (all condition 1 (in_here (Use condition 1) [])))

  assumes_same : (body : List Instr) → ((instr : Instr) → Contains body instr → AllThere vals (op_parts instr.op)) → list_all (λ instr. is_assumed more instr.op) body ≡ list_all (λ instr. is_assumed vals instr.op) body
  assumes_same [] all = refl
  assumes_same (instr ∷ body) all =
      let here : is_assumed more instr.op ≡ is_assumed vals instr.op = assumed_same instr.op (all instr (in_here instr body)) in
      let rest = assumes_same body (λ other there. all other (in_there instr other body there)) in
      λ i. here i && rest i

  mapped_same : (f : Val → Step) (value : Operand) → IsThere vals value → option_map f (operand_value more value) ≡ option_map f (operand_value vals value)
  mapped_same f value there = ap (option_map f) (operand_same vals more grows value there)

  end_same : (func : Func) (terminator : End) → AllThere vals (end_parts terminator) → end_step func more terminator ≡ end_step func vals terminator
  end_same func end.RetVoid all = refl
  end_same func (end.Ret width value) all = mapped_same (return_of func width) value (all value width (in_here (Use value width) []))
  end_same func (end.Br to) all = refl
  end_same func (end.CondBr condition on_one on_zero) all = mapped_same (branch on_one on_zero) condition (all condition 1 (in_here (Use condition 1) (Goal on_one ∷ Goal on_zero ∷ [])))
  end_same func (end.Switch width value default cases) all = mapped_same (choose default cases) value (all value width (in_here (Use value width) (Goal default ∷ map (λ case. Goal case.to) cases)))
  end_same func end.Unreachable all = refl

  pub step_same : (func : Func) (args : List ℕ) (block : Block) → IsReady vals block → step_of func args more block ≡ step_of func args vals block
  step_same func args block ready =
      let assumes = assumes_same block.body ready.body in
      let ends = end_same func block.end ready.ends in
      λ i. cond (has_poison_argument func args) (Some (Fails cause.PoisonArgument)) (cond (assumes i) (ends i) (Some (Fails cause.FalseAssume)))

  pub ready_grows : (block : Block) → IsReady vals block → IsReady more block
  ready_grows block ready = record {
    body = λ instr there value width used. there_grows vals more grows value (ready.body instr there value width used);
    ends = λ value width used. there_grows vals more grows value (ready.ends value width used);
  }

-- ---- it is a target

abbrev goal : Step → Option (List ℕ)
goal (Goes label) = Some label
goal (Returns result) = None
goal (Fails why) = None

abbrev found_goal : Option Step → Option (List ℕ)
found_goal None = None
found_goal (Some step) = goal step

pub goes_same : (a b : List ℕ) → Goes a ≡ Goes b → a ≡ b
goes_same a b e = same_Some a b (ap goal e)

never : (step : Step) (label : List ℕ) → goal step ≡ None → step ≡ Goes label → ⊥
never step label none e = none-some label (sym none ∙ ap goal e)

give_ends : (noundef : Bool) (width : ℕ) (val : Val) → goal (give noundef width val) ≡ None
give_ends true width Poison = refl
give_ends true width (Num n) = refl
give_ends false width Poison = refl
give_ends false width (Num n) = refl

branched : (on_one on_zero label : List ℕ) (val : Val) → branch on_one on_zero val ≡ Goes label → Contains (on_one ∷ on_zero ∷ []) label
branched on_one on_zero label Poison e = absurd (never (Fails cause.PoisonBranch) label refl e)
branched on_one on_zero label (Num n) e =
    subst (λ (name : List ℕ). Contains (on_one ∷ on_zero ∷ []) name) (goes_same (cond (eqb n 1) on_one on_zero) label e)
    (cond_both (eqb n 1) on_one on_zero (λ name. Contains (on_one ∷ on_zero ∷ []) name) (λ yes. in_here on_one (on_zero ∷ [])) (λ no. in_there on_one on_zero (on_zero ∷ []) (in_here on_zero [])))

abbrev case_pair : Case → ℕ × List ℕ
case_pair case = (case.value, case.to)

abbrev case_to : Case → List ℕ
case_to case = case.to

picked : (n : ℕ) (default : List ℕ) (cases : List Case) → (unwrap_or (lookup (λ value. eqb value n) (map case_pair cases)) default ≡ default) ⊎ Contains (map case_to cases) (unwrap_or (lookup (λ value. eqb value n) (map case_pair cases)) default)
picked n default [] = inl refl
picked n default (case ∷ cases) =
    cond_both (eqb case.value n) (Some case.to) (lookup (λ value. eqb value n) (map case_pair cases)) (λ found. (unwrap_or found default ≡ default) ⊎ Contains (map case_to (case ∷ cases)) (unwrap_or found default))
    (λ yes. inr (in_here case.to (map case_to cases)))
    (λ no. later (picked n default cases))
  where
    later : (unwrap_or (lookup (λ value. eqb value n) (map case_pair cases)) default ≡ default) ⊎ Contains (map case_to cases) (unwrap_or (lookup (λ value. eqb value n) (map case_pair cases)) default)
        → (unwrap_or (lookup (λ value. eqb value n) (map case_pair cases)) default ≡ default) ⊎ Contains (map case_to (case ∷ cases)) (unwrap_or (lookup (λ value. eqb value n) (map case_pair cases)) default)
    later (inl is) = inl is
    later (inr there) = inr (in_there case.to (unwrap_or (lookup (λ value. eqb value n) (map case_pair cases)) default) (map case_to cases) there)

abbrev target_of : List ℕ → List Case → ℕ → List ℕ
target_of default cases n = unwrap_or (lookup (λ value. eqb value n) (map case_pair cases)) default

target_in : (default : List ℕ) (cases : List Case) (n : ℕ) → (target_of default cases n ≡ default) ⊎ Contains (map case_to cases) (target_of default cases n) → Contains (default ∷ map case_to cases) (target_of default cases n)
target_in default cases n (inl is) = subst (λ (name : List ℕ). Contains (default ∷ map case_to cases) name) (sym is) (in_here default (map case_to cases))
target_in default cases n (inr there) = in_there default (target_of default cases n) (map case_to cases) there

chosen : (default label : List ℕ) (cases : List Case) (val : Val) → choose default cases val ≡ Goes label → Contains (default ∷ map case_to cases) label
chosen default label cases Poison e = absurd (never (Fails cause.PoisonSwitch) label refl e)
chosen default label cases (Num n) e = subst (λ (name : List ℕ). Contains (default ∷ map case_to cases) name) (goes_same (target_of default cases n) label e) (target_in default cases n (picked n default cases))

end_target : (func : Func) (vals : Vals) (terminator : End) (label : List ℕ) → end_step func vals terminator ≡ Some (Goes label) → Contains (targets_of terminator) label
end_target func vals end.RetVoid label e = absurd (none-some label (ap found_goal e))
end_target func vals (end.Ret width value) label e =
    let (val, is, same) = one_some (return_of func width) (operand_value vals value) (Goes label) e in
    absurd (never (return_of func width val) label (give_ends func.ret_noundef width (on_number (ranged func.ret_range) val)) same)
end_target func vals (end.Br to) label e = subst (λ (name : List ℕ). Contains (to ∷ []) name) (same_Some to label (ap found_goal e)) (in_here to [])
end_target func vals (end.CondBr condition on_one on_zero) label e =
    let (val, is, same) = one_some (branch on_one on_zero) (operand_value vals condition) (Goes label) e in
    branched on_one on_zero label val same
end_target func vals (end.Switch width value default cases) label e =
    let (val, is, same) = one_some (choose default cases) (operand_value vals value) (Goes label) e in
    chosen default label cases val same
end_target func vals end.Unreachable label e = absurd (none-some label (ap found_goal e))

cond_goes : (P : Type 0) (label : List ℕ) (b : Bool) (x y : Option Step) → (x ≡ Some (Goes label) → P) → (y ≡ Some (Goes label) → P) → cond b x y ≡ Some (Goes label) → P
cond_goes P label true x y of_x of_y e = of_x e
cond_goes P label false x y of_x of_y e = of_y e

pub step_target : (func : Func) (args : List ℕ) (vals : Vals) (block : Block) (label : List ℕ) → step_of func args vals block ≡ Some (Goes label) → Contains (targets_of block.end) label
step_target func args vals block label e =
    cond_goes (Contains (targets_of block.end) label) label (has_poison_argument func args) (Some (Fails cause.PoisonArgument)) (cond (list_all (λ instr. is_assumed vals instr.op) block.body) (end_step func vals block.end) (Some (Fails cause.FalseAssume)))
    (λ barred. absurd (none-some label (ap found_goal barred)))
    (cond_goes (Contains (targets_of block.end) label) label (list_all (λ instr. is_assumed vals instr.op) block.body) (end_step func vals block.end) (Some (Fails cause.FalseAssume))
    (end_target func vals block.end label)
    (λ lies. absurd (none-some label (ap found_goal lies))))
    e
