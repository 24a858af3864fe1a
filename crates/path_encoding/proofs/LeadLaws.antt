-- Values lead along the path that a point takes, and its last block returns.
use Rattle.std.proofs.Common.{◌≡◌, ◌<◌, ◌≤◌, ◌&&◌, ◌||◌, ⊎_elim, ℕ, ℤ, pos, ◌≤ℤ◌, eqb, Bool, true, false, cond, not, List, [], ◌∷◌, ◌++◌, length, map, Option, Some, option_map, refl, sym, ◌∙◌, ap, arith}
use Rattle.std.specs.Prelude.{unsigned_abs, zip, flat_map}
use Rattle.std.specs.Option.{unwrap_or}
use Rattle.std.specs.Map.{lookup}
use Rattle.std.specs.List.{list_all, list_any, Contains}
use Rattle.std.proofs.lemmas.Bool.{true≢false, cond_both}
use Rattle.std.proofs.lemmas.Bool.Decides.{nat_tests, Decides-eqb}
use Rattle.std.proofs.lemmas.Int.{ints}
use Rattle.mix_system.specs.declared.literal.Term.TheVariants.{Var}
use Rattle.mix_system.specs.declared.literal.Lit.{Lit}
use Rattle.mix_system.specs.declared.row.Part.{Part}
use Rattle.mix_system.specs.Fits.{IsTrueAt}
use Rattle.mix_system.specs.Row.{number_at}
use Rattle.ll_tree.specs.declared.func.Param.{Param}
use Rattle.ll_tree.specs.declared.func.Range.{Range}
use Rattle.ll_tree.specs.declared.block.Case.{Case}
use Rattle.ll_tree.specs.declared.block.Instr.{Instr}
use Rattle.ll_tree.specs.declared.block.Operand.{Operand}
use Rattle.ll_tree.specs.declared.block.End.{End}
use Rattle.ll_tree.specs.declared.block.End.TheVariants as end
use Rattle.ll_tree.specs.declared.op.Op.{Op}
use Rattle.ll_tree.specs.declared.op.Op.TheVariants.{Bin, Cmp, Cast, Select, Abs, Assume}
use Rattle.ll_rules.specs.Items.{Part as Operands, Use, Goal, end_parts, targets_of}
use Rattle.ll_flow.proofs.PlaceLaws.{no_item, cons_cases}
use Rattle.ll_verifier.specs.Sound.{SoundFunc}
use Rattle.ir_meaning.specs.declared.value.Val.{Val}
use Rattle.ir_meaning.specs.declared.value.Val.TheVariants.{Poison, Num}
use Rattle.ir_meaning.specs.Value.{poison_if, on_number}
use Rattle.ir_runs.specs.Values.{Vals, operand_value, is_in_range, ranged}
use Rattle.ir_runs.specs.Walk.{Goes, Returns, branch, choose, give, end_step, is_one, is_assumed, is_barred}
use Rattle.ir_runs.specs.declared.ret_val.RetVal.{RetVal}
use Rattle.ir_runs.specs.declared.ret_val.RetVal.TheVariants as ret
use Rattle.ir_runs.proofs.MemberLaws.{in_here, in_there, in_map}
use Rattle.wrap_rows.specs.declared.vars.ValueVars.{ValueVars}
use Rattle.wrap_rows.specs.Layout.{at_most, at_least}
use Rattle.wrap_rows.specs.Vars.{value_at}
use Rattle.wrap_rows.proofs.CaseLaws.{Each, Some_of, by_test, without_first, only}
use Rattle.wrap_rows.proofs.BlockLaws.{Clause_here, Each-left, Each-right}
use Rattle.path_encoding.specs.declared.spots.PathSpots.{PathSpots}
use Rattle.path_encoding.specs.Spots.{operand_vars, block_var, place_with, edge_to, cases_of}
use Rattle.path_encoding.specs.FlowRows.{goes_on}
use Rattle.path_encoding.specs.Ends.{is_off, is_on, assume_clauses, not_poison, return_clauses, branch_clauses, each_case, default_clause, end_clauses}
use Rattle.path_encoding.specs.PathLayout.{strict_clauses}
use Rattle.path_encoding.specs.Agree.{Agrees, AllAgree, assume_parts, IsGiven}
use Rattle.path_encoding.proofs.NumberLaws.{size_of, number_there, ranged_said, ranged_is}

module _ (it : SoundFunc) (spots : PathSpots) (rows : List (List Part)) (point : List ℤ) (vals : Vals) where
  abbrev Says : List Lit → Type 0
  Says = Clause_here rows point

  -- ---- operands that aren't poison

  abbrev number_of : Operand → ℕ
  number_of operand = unsigned_abs (number_at point (operand_vars it spots operand).number)

  pub record IsNumbered (width : ℕ) (operand : Operand) : Type 0 where
    pub value : operand_value vals operand ≡ Some (Num (number_of operand))
    pub number : number_at point (operand_vars it spots operand).number ≡ pos (number_of operand)

  numbered : (block width : ℕ) (operand : Operand) → pos 1 ≤ℤ number_at point block → Agrees it spots point vals width operand → Says (not_poison block (operand_vars it spots operand)) → IsNumbered width operand
  numbered block width operand on agrees said =
      let off = only (without_first said (λ low. omega (arith, ints, on, low))) in
      let fits = agrees.fits in
      record {
        value = agrees.value ∙ ap Some (number_there (operand_vars it spots operand) point fits.mark off);
        number = size_of (number_at point (operand_vars it spots operand).number) fits.number.0;
      }

  -- ---- assumes

  assume_holds : (block : ℕ) (op : Op) → pos 1 ≤ℤ number_at point block → AllAgree it spots point vals (assume_parts op) → Each Says (assume_clauses it spots block op) → is_assumed vals op ≡ true
  assume_holds block (Bin kind flags width left right) on agree each = refl
  assume_holds block (Cmp pred flags width left right) on agree each = refl
  assume_holds block (Cast kind flags from arg to) on agree each = refl
  assume_holds block (Select width condition first second) on agree each = refl
  assume_holds block (Abs width arg strict) on agree each = refl
  assume_holds block (Assume condition) on agree each =
      let agrees = agree condition 1 (in_here (Use condition 1) []) in
      let value = numbered block 1 condition on agrees each.0 in
      let high = only (without_first each.1.0 (λ low. omega (arith, ints, on, low))) in
      let fits = agrees.fits in
      let one : number_of condition ≡ 1 = omega (arith, ints, value.number, high, fits.number.1) in
      ap is_one value.value ∙ (Decides-eqb (number_of condition) 1).1 one

  pub assumes_hold : (block : ℕ) (body : List Instr) → pos 1 ≤ℤ number_at point block → ((instr : Instr) → Contains body instr → AllAgree it spots point vals (assume_parts instr.op)) → Each Says (flat_map (λ instr. assume_clauses it spots block instr.op) body) → list_all (λ instr. is_assumed vals instr.op) body ≡ true
  assumes_hold block [] on agree each = refl
  assumes_hold block (instr ∷ body) on agree each =
      let mine = assume_clauses it spots block instr.op in
      let others = flat_map (λ (other : Instr). assume_clauses it spots block other.op) body in
      let here = assume_holds block instr.op on (agree instr (in_here instr body)) (Each-left Says mine others each) in
      let rest = assumes_hold block body on (λ other there. agree other (in_there instr other body there)) (Each-right Says mine others each) in
      λ i. here i && rest i

  -- ---- a block that is left

  module _ (at : ℕ) (on : pos 1 ≤ℤ number_at point (block_var spots at)) where
    abbrev OnEdge : List ℕ → Type 0
    OnEdge label = pos 1 ≤ℤ number_at point (edge_to it spots at (place_with it.func label))

    -- the label to which the taken edge leads, one of the targets and the only one whose edge is 1
    pub record IsNext (targets : List (List ℕ)) (next : List ℕ) : Type 0 where
      pub named : Contains targets next
      pub only_one : (label : List ℕ) → Contains targets label → OnEdge label → label ≡ next
      pub one_place : (label other : List ℕ) → Contains targets label → Contains targets other → place_with it.func label ≡ place_with it.func other → label ≡ other

    abbrev case_label : Case → List ℕ
    case_label case = case.to

    -- the case's variable is 0 where the number isn't its own
    not_one : (value n var number : ℕ) → eqb value n ≡ false → number_at point number ≡ pos n → Says (is_off var ∷ at_most (Var number) (pos value) ∷ []) → Says (is_off var ∷ at_least (Var number) (pos value) ∷ []) → number_at point var ≤ℤ pos 0
    not_one value n var number other is first second =
        ⊎_elim (λ low. low)
        (λ below. ⊎_elim (λ low. low)
        (λ above.
        let most : n ≤ value = omega (arith, ints, is, only below) in
        let least : value ≤ n = omega (arith, ints, is, only above) in
        absurd (true≢false (sym ((Decides-eqb value n).1 (omega (arith, most, least))) ∙ other)))
        second)
        first

    -- a switch goes there
    chosen : (number n : ℕ) → number_at point number ≡ pos n → (default next : List ℕ) (cases : List Case) (vars : List ℕ) → length cases ≤ length vars
        → Each Says (flat_map (each_case it spots at number) (zip cases vars))
        → Some_of (IsTrueAt rows point) (map (λ (case : Case × ℕ). is_on case.1) (zip cases vars) ++ is_on (edge_to it spots at (place_with it.func default)) ∷ [])
        → (OnEdge default → default ≡ next) → ((case : Case) → Contains cases case → OnEdge case.to → case.to ≡ next)
        → unwrap_or (lookup (λ value. eqb value n) (map (λ (case : Case). (case.value, case.to)) cases)) default ≡ next
    chosen number n is default next [] vars few each some by_default by_case = by_default (only some)
    chosen number n is default next (case ∷ cases) [] few each some by_default by_case = absurd (omega (arith, few))
    chosen number n is default next (case ∷ cases) (var ∷ vars) few each some by_default by_case =
        cond_both (eqb case.value n) (Some case.to) (lookup (λ value. eqb value n) (map (λ (case : Case). (case.value, case.to)) cases)) (λ (found : Option (List ℕ)). unwrap_or found default ≡ next)
        (λ yes.
        let same : case.value ≡ n = (Decides-eqb case.value n).0 yes in
        let high = ⊎_elim (λ high. high) (λ rest. ⊎_elim (λ below. absurd (omega (arith, ints, below, is, same))) (λ others. absurd (omega (arith, ints, only others, is, same))) rest) each.1.1.0 in
        let taken = only (without_first (without_first each.1.1.1.0 (λ low. omega (arith, ints, on, low))) (λ low. omega (arith, ints, high, low))) in
        by_case case (in_here case cases) taken)
        (λ no.
        let low = not_one case.value n var number no is each.0 each.1.0 in
        chosen number n is default next cases vars (omega (arith, few)) each.1.1.1.1 (without_first some (λ high. omega (arith, ints, low, high))) by_default (λ other there. by_case other (in_there case other cases there)))

    agrees_with : (width : ℕ) (operand : Operand) (parts : List Operands) → AllAgree it spots point vals (Use operand width ∷ parts) → Agrees it spots point vals width operand
    agrees_with width operand parts agree = agree operand width (in_here (Use operand width) parts)

    -- the terminator of a block leads to the label
    pub leads_to : (terminator : End) (next : List ℕ) (vars : List ℕ) → goes_on terminator ≡ true → IsNext (targets_of terminator) next → AllAgree it spots point vals (end_parts terminator) → length (cases_of terminator) ≤ length vars
        → Each Says (end_clauses it spots at (zip (cases_of terminator) vars) terminator) → end_step it.func vals terminator ≡ Some (Goes next)
    leads_to end.RetVoid next vars goes is agree few each = absurd (true≢false (sym goes))
    leads_to (end.Ret width value) next vars goes is agree few each = absurd (true≢false (sym goes))
    leads_to (end.Br to) next vars goes is agree few each =
        ⊎_elim (λ same. ap (λ (label : List ℕ). Some (Goes label)) same) (λ none. absurd (no_item next none)) (cons_cases to [] next is.named)
    leads_to (end.CondBr condition when_set when_clear) next vars goes is agree few each =
        let agrees = agrees_with 1 condition (Goal when_set ∷ Goal when_clear ∷ []) agree in
        let value = numbered (block_var spots at) 1 condition on agrees each.0 in
        let n = number_of condition in
        let fits = agrees.fits in
        let few_numbers : n < 2 = omega (arith, ints, value.number, fits.number.1) in
        let one_named = in_here when_set (when_clear ∷ []) in
        let zero_named = in_there when_set when_clear (when_clear ∷ []) (in_here when_clear []) in
        let goal : cond (eqb n 1) when_set when_clear ≡ next =
        by_test (λ (same : Bool). Each Says (branch_clauses same (block_var spots at) (operand_vars it spots condition).number (edge_to it spots at (place_with it.func when_set)) (edge_to it spots at (place_with it.func when_clear))) → eqb (place_with it.func when_set) (place_with it.func when_clear) ≡ same → cond (eqb n 1) when_set when_clear ≡ next) (eqb (place_with it.func when_set) (place_with it.func when_clear))
        (λ yes said test.
        let one : when_set ≡ when_clear = is.one_place when_set when_clear one_named zero_named ((Decides-eqb (place_with it.func when_set) (place_with it.func when_clear)).0 yes) in
        let zero_is : when_clear ≡ next = ⊎_elim (λ same. sym one ∙ same) (λ later. ⊎_elim (λ same. same) (λ none. absurd (no_item next none)) (cons_cases when_clear [] next later)) (cons_cases when_set (when_clear ∷ []) next is.named) in
        cond_both (eqb n 1) when_set when_clear (λ (label : List ℕ). label ≡ next) (λ _. one ∙ zero_is) (λ _. zero_is))
        (λ no said test.
        cond_both (eqb n 1) when_set when_clear (λ (label : List ℕ). label ≡ next)
        (λ yes.
        let high : n ≡ 1 = (Decides-eqb n 1).0 yes in
        is.only_one when_set one_named (only (without_first (without_first said.0 (λ low. omega (arith, ints, on, low))) (λ low. omega (arith, ints, low, value.number, high)))))
        (λ other.
        let low : n ≡ 0 = small n few_numbers other in
        is.only_one when_clear zero_named (only (without_first (without_first said.1.0 (λ below. omega (arith, ints, on, below))) (λ high. omega (arith, ints, high, value.number, low))))))
        each.1 refl in
        ap (option_map (branch when_set when_clear)) value.value ∙ ap (λ (label : List ℕ). Some (Goes label)) goal
      where
        small : (n : ℕ) → n < 2 → eqb n 1 ≡ false → n ≡ 0
        small n few other = grind (arith, nat_tests)
    leads_to (end.Switch width operand default cases) next vars goes is agree few each =
        let agrees = agrees_with width operand (Goal default ∷ map (λ (case : Case). Goal case.to) cases) agree in
        let value = numbered (block_var spots at) width operand on agrees each.0 in
        let n = number_of operand in
        let number = (operand_vars it spots operand).number in
        let mine = flat_map (each_case it spots at number) (zip cases vars) in
        let last = default_clause (block_var spots at) (zip cases vars) (edge_to it spots at (place_with it.func default)) in
        let some = without_first (Each-right Says mine (last ∷ []) each.1).0 (λ low. omega (arith, ints, on, low)) in
        let goal = chosen number n value.number default next cases vars few (Each-left Says mine (last ∷ []) each.1) some
        (λ taken. is.only_one default (in_here default (map case_label cases)) taken)
        (λ case there taken. is.only_one case.to (in_there default case.to (map case_label cases) (in_map case_label cases case there)) taken) in
        ap (option_map (choose default cases)) value.value ∙ ap (λ (label : List ℕ). Some (Goes label)) goal
    leads_to end.Unreachable next vars goes is agree few each = absurd (true≢false (sym goes))

    -- ---- a block that isn't left

    give_returns : (noundef : Bool) (width : ℕ) (val : Val) (n : ℕ) → val ≡ Num n → (result : RetVal) × (give noundef width val ≡ Returns result)
    give_returns true width val n is = (ret.Num width n, ap (give true width) is)
    give_returns false width val n is = (ret.Num width n, ap (give false width) is)

    give_any : (width : ℕ) (val : Val) → (result : RetVal) × (give false width val ≡ Returns result)
    give_any width Poison = (ret.Poison width, refl)
    give_any width (Num n) = (ret.Num width n, refl)

    return_there : (noundef : Bool) (range : Option Range) (width : ℕ) (operand : Operand) → Agrees it spots point vals width operand → Each Says (return_clauses noundef range (block_var spots at) (operand_vars it spots operand))
        → (result : RetVal) × (option_map (λ val. give noundef width (on_number (ranged range) val)) (operand_value vals operand) ≡ Some (Returns result))
    return_there true range width operand agrees each =
        let value = numbered (block_var spots at) width operand on agrees each.0 in
        let n = number_of operand in
        let inside = ranged_said rows point (block_var spots at) (operand_vars it spots operand) n value.number range on each.1 in
        let found = give_returns true width (ranged range n) n (ranged_is range n inside) in
        (found.0, ap (option_map (λ val. give true width (on_number (ranged range) val))) value.value ∙ ap Some found.1)
    return_there false range width operand agrees each =
        let val = value_at (operand_vars it spots operand) point in
        let found = give_any width (on_number (ranged range) val) in
        (found.0, ap (option_map (λ val. give false width (on_number (ranged range) val))) agrees.value ∙ ap Some found.1)

    pub returns_there : (terminator : End) (cases : List (Case × ℕ)) → goes_on terminator ≡ false → AllAgree it spots point vals (end_parts terminator) → Each Says (end_clauses it spots at cases terminator)
        → (result : RetVal) × (end_step it.func vals terminator ≡ Some (Returns result))
    returns_there end.RetVoid cases stays agree each = (ret.Void, refl)
    returns_there (end.Ret width value) cases stays agree each = return_there it.func.ret_noundef it.func.ret_range width value (agrees_with width value [] agree) each
    returns_there (end.Br to) cases stays agree each = absurd (true≢false stays)
    returns_there (end.CondBr condition when_set when_clear) cases stays agree each = absurd (true≢false stays)
    returns_there (end.Switch width value default written) cases stays agree each = absurd (true≢false stays)
    returns_there end.Unreachable cases stays agree each = absurd (omega (arith, ints, on, only each.0))

  -- ---- arguments

  given_holds : (param : Param) (arg : ℕ) (value : ValueVars) → Each Says (strict_clauses (param, value)) → IsGiven point ((param, arg), value) → is_barred (param, arg) ≡ false
  given_holds param arg value each given =
      by_test (λ (test : Bool). Each Says (cond test ((is_off value.mark ∷ []) ∷ []) []) → (test && not (is_in_range param.range arg)) ≡ false) param.strict
      (λ strict said.
      let number = number_there value point given.mark (only said.0) in
      inside (is_in_range param.range arg) (unsigned_abs (number_at point value.number)) (sym number ∙ given.value))
      (λ loose said. refl)
      each
    where
      inside : (test : Bool) (n : ℕ) → Num n ≡ poison_if (not test) arg → not test ≡ false
      inside true n same = refl
      inside false n same = absurd (cc same)

  pub none_barred : (params : List Param) (args : List ℕ) (values : List ValueVars) → length args ≡ length params → length params ≤ length values → Each Says (flat_map strict_clauses (zip params values)) → Each (IsGiven point) (zip (zip params args) values) → list_any is_barred (zip params args) ≡ false
  none_barred [] args values same few each given = refl
  none_barred (param ∷ params) [] values same few each given = absurd (omega (arith, same))
  none_barred (param ∷ params) (arg ∷ args) [] same few each given = absurd (omega (arith, few))
  none_barred (param ∷ params) (arg ∷ args) (value ∷ values) same few each given =
      let mine = strict_clauses (param, value) in
      let others = flat_map strict_clauses (zip params values) in
      let here = given_holds param arg value (Each-left Says mine others each) given.0 in
      let rest = none_barred params args values (omega (arith, same)) (omega (arith, few)) (Each-right Says mine others each) given.1 in
      λ i. here i || rest i
