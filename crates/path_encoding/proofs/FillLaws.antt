-- The clauses of a block are true where its variables say how it is left, and where it isn't visited.
use Rattle.std.proofs.Common.{◌≡◌, ◌<◌, ◌≤◌, ◌&&◌, ◌||◌, ⊎_elim, inl, inr, ◌⊎◌, ℕ, ℤ, pos, ◌≤ℤ◌, ◌-ℤ◌, ◌+ℤ◌, eqb, ltb, Bool, true, false, cond, not, List, [], ◌∷◌, ◌++◌, length, map, Option, Some, None, option_map, refl, sym, ◌∙◌, ap, arith}
use Rattle.std.specs.Prelude.{zip, flat_map}
use Rattle.std.specs.Option.{unwrap_or}
use Rattle.std.specs.Map.{lookup}
use Rattle.std.specs.List.{list_all, list_any, Contains}
use Rattle.std.proofs.lemmas.Bool.{true≢false, cond_both}
use Rattle.std.proofs.lemmas.Bool.Decides.{nat_tests, Decides-eqb}
use Rattle.std.proofs.lemmas.Int.{ints, by_lt_z}
use Rattle.mix_system.specs.declared.literal.Lit.{Lit}
use Rattle.mix_system.specs.declared.row.Part.{Part}
use Rattle.mix_system.specs.Fits.{IsTrueAt}
use Rattle.mix_system.specs.Row.{number_at}
use Rattle.ll_tree.specs.declared.func.Param.{Param}
use Rattle.ll_tree.specs.declared.func.Range.{Range}
use Rattle.ll_tree.specs.declared.block.Case.{Case}
use Rattle.ll_tree.specs.declared.block.Instr.{Instr}
use Rattle.ll_tree.specs.declared.block.Operand.{Operand}
use Rattle.ll_tree.specs.declared.block.End.{End}
use Rattle.ll_tree.specs.declared.block.End.TheVariants as end
use Rattle.ll_tree.specs.declared.op.Op.{Op}
use Rattle.ll_tree.specs.declared.op.Op.TheVariants.{Bin, Cmp, Cast, Select, Abs, Assume}
use Rattle.ll_rules.specs.Items.{Part as Operands, Use, Goal, end_parts, targets_of}
use Rattle.ll_item_rules.specs.Cases.{end_repeated}
use Rattle.ll_verifier.specs.Sound.{SoundFunc}
use Rattle.ir_meaning.specs.declared.value.Val.{Val}
use Rattle.ir_meaning.specs.declared.value.Val.TheVariants.{Poison, Num}
use Rattle.ir_meaning.specs.Value.{poison_if, on_number}
use Rattle.ir_runs.specs.Values.{Vals, is_in_range, ranged}
use Rattle.ir_runs.specs.Walk.{Goes, Returns, branch, choose, give, return_of, end_step, is_one, is_assumed, is_barred}
use Rattle.ir_runs.specs.declared.ret_val.RetVal.{RetVal}
use Rattle.ir_runs.proofs.MemberLaws.{in_here, in_there, in_map}
use Rattle.wrap_rows.specs.declared.vars.ValueVars.{ValueVars}
use Rattle.wrap_rows.specs.Vars.{value_at}
use Rattle.wrap_rows.proofs.CaseLaws.{Each, Some_of, by_test}
use Rattle.wrap_rows.proofs.BlockLaws.{Clause_here, Each-append, mark_cases}
use Rattle.path_encoding.specs.declared.spots.PathSpots.{PathSpots}
use Rattle.path_encoding.specs.Spots.{operand_vars, block_var, place_with, edge_to, cases_of}
use Rattle.path_encoding.specs.Ends.{is_off, is_on, assume_clauses, return_clauses, ranged_clauses, branch_clauses, case_clauses, each_case, default_clause, end_clauses}
use Rattle.path_encoding.specs.PathLayout.{strict_clauses}
use Rattle.path_encoding.specs.Agree.{Agrees, AllAgree, assume_parts, IsGiven, IsCaseSaid, asked_var}
use Rattle.path_encoding.proofs.CaseDiffer.{found_case}
use Rattle.path_encoding.proofs.MemberLaws.{first_in}
use Rattle.path_encoding.proofs.NumberLaws.{size_of, mark_off, ranged_true}

module _ (it : SoundFunc) (spots : PathSpots) (rows : List (List Part)) (point : List ℤ) where
  abbrev Says : List Lit → Type 0
  Says = Clause_here rows point

  -- ---- a case's variable

  apart : (v k : ℤ) → ¬ (v ≡ k) → (v ≤ℤ (k -ℤ pos 1)) ⊎ ((k +ℤ pos 1) ≤ℤ v)
  apart v k other =
      by_lt_z v k (λ below. inl (omega (arith, ints, below)))
      (λ above. by_lt_z k v (λ more. inr (omega (arith, ints, more))) (λ rest. absurd (other (omega (arith, ints, above, rest)))))

  -- its clauses are true, where the edge is 1 or the block isn't visited or it is 0
  case_true : (block number edge : ℕ) (case : Case × ℕ) → IsCaseSaid point number case → (number_at point case.1 ≡ pos 1 → (number_at point block ≤ℤ pos 0) ⊎ (pos 1 ≤ℤ number_at point edge)) → Each Says (case_clauses block number case.0.value case.1 edge)
  case_true block number edge case said when =
      ⊎_elim
      (λ zero.
      let low : number_at point case.1 ≤ℤ pos 0 = omega (arith, ints, zero) in
      let other = apart (number_at point number) (pos case.0.value) (λ same. absurd (omega (arith, ints, zero, said.says.1 same))) in
      (inl low, (inl low, (inr (⊎_elim (λ below. inl below) (λ above. inr (inl above)) other), (inr (inl low), tt)))))
      (λ one.
      let same = said.says.0 one in (
        inr (inl (omega (arith, ints, same))),
        (inr (inl (omega (arith, ints, same))), (inl (omega (arith, ints, one)), (⊎_elim (λ off. inl off) (λ on. inr (inr (inl on))) (when one), tt))),
      ))
      (mark_cases (number_at point case.1) said.mark)

  -- ---- a block that isn't visited

  module _ (at : ℕ) (off : number_at point (block_var spots at) ≤ℤ pos 0) where
    assume_off : (op : Op) → Each Says (assume_clauses it spots (block_var spots at) op)
    assume_off (Bin kind flags width left right) = tt
    assume_off (Cmp pred flags width left right) = tt
    assume_off (Cast kind flags from arg to) = tt
    assume_off (Select width condition first second) = tt
    assume_off (Abs width arg strict) = tt
    assume_off (Assume condition) = (inl off, (inl off, tt))

    pub assumes_off : (body : List Instr) → Each Says (flat_map (λ instr. assume_clauses it spots (block_var spots at) instr.op) body)
    assumes_off [] = tt
    assumes_off (instr ∷ body) = Each-append Says (assume_clauses it spots (block_var spots at) instr.op) (flat_map (λ (other : Instr). assume_clauses it spots (block_var spots at) other.op) body) (assume_off instr.op) (assumes_off body)

    cases_off : (number : ℕ) (cases : List (Case × ℕ)) → Each (IsCaseSaid point number) cases → Each Says (flat_map (each_case it spots at number) cases)
    cases_off number [] said = tt
    cases_off number (case ∷ cases) said =
        Each-append Says (each_case it spots at number case) (flat_map (each_case it spots at number) cases)
        (case_true (block_var spots at) number (edge_to it spots at (place_with it.func case.0.to)) case said.0 (λ one. inl off)) (cases_off number cases said.1)

    ranged_off : (value : ValueVars) (range : Option Range) → Each Says (ranged_clauses (block_var spots at) value range)
    ranged_off value None = tt
    ranged_off value (Some range) = cond_both (ltb range.hi range.lo) _ _ (Each Says) (λ _. (inl off, tt)) (λ _. (inl off, (inl off, tt)))

    return_off : (noundef : Bool) (range : Option Range) (value : ValueVars) → Each Says (return_clauses noundef range (block_var spots at) value)
    return_off true range value = (inl off, ranged_off value range)
    return_off false range value = tt

    branch_off : (same : Bool) (number when_set when_clear : ℕ) → Each Says (branch_clauses same (block_var spots at) number when_set when_clear)
    branch_off true number when_set when_clear = tt
    branch_off false number when_set when_clear = (inl off, (inl off, tt))

    pub end_off : (terminator : End) (cases : List (Case × ℕ)) → Each (IsCaseSaid point (asked_var it spots terminator)) cases → Each Says (end_clauses it spots at cases terminator)
    end_off end.RetVoid cases said = tt
    end_off (end.Ret width value) cases said = return_off it.func.ret_noundef it.func.ret_range (operand_vars it spots value)
    end_off (end.Br to) cases said = tt
    end_off (end.CondBr condition when_set when_clear) cases said = (inl off, branch_off (eqb (place_with it.func when_set) (place_with it.func when_clear)) (operand_vars it spots condition).number (edge_to it spots at (place_with it.func when_set)) (edge_to it spots at (place_with it.func when_clear)))
    end_off (end.Switch width value default written) cases said = (
      inl off,
      Each-append Says (flat_map (each_case it spots at (operand_vars it spots value).number) cases) (default_clause (block_var spots at) cases (edge_to it spots at (place_with it.func default)) ∷ []) (cases_off (operand_vars it spots value).number cases said) (inl off, tt),
    )
    end_off end.Unreachable cases said = (inl off, tt)

  -- ---- a block that is visited

  module _ (vals : Vals) where
    -- an operand that is a number
    pub record IsNumber (operand : Operand) (n : ℕ) : Type 0 where
      pub mark : number_at point (operand_vars it spots operand).mark ≤ℤ pos 0
      pub number : number_at point (operand_vars it spots operand).number ≡ pos n

    number_of : (width : ℕ) (operand : Operand) (n : ℕ) → Agrees it spots point vals width operand → value_at (operand_vars it spots operand) point ≡ Num n → IsNumber operand n
    number_of width operand n agrees is =
        let found = mark_off (operand_vars it spots operand) point n agrees.fits.mark is in
        record { mark = found.0; number = size_of (number_at point (operand_vars it spots operand).number) agrees.fits.number.0 ∙ ap pos found.1 }

    -- ---- assumes

    one_there : (val : Val) → is_one (Some val) ≡ true → val ≡ Num 1
    one_there Poison is = absurd (true≢false (sym is))
    one_there (Num n) is = ap Num ((Decides-eqb n 1).0 is)

    assume_true : (block : ℕ) (op : Op) → AllAgree it spots point vals (assume_parts op) → is_assumed vals op ≡ true → Each Says (assume_clauses it spots block op)
    assume_true block (Bin kind flags width left right) agree is = tt
    assume_true block (Cmp pred flags width left right) agree is = tt
    assume_true block (Cast kind flags from arg to) agree is = tt
    assume_true block (Select width condition first second) agree is = tt
    assume_true block (Abs width arg strict) agree is = tt
    assume_true block (Assume condition) agree is =
        let agrees = agree condition 1 (in_here (Use condition 1) []) in
        let value = number_of 1 condition 1 agrees (one_there (value_at (operand_vars it spots condition) point) (sym (ap is_one agrees.value) ∙ is)) in
        (inr (inl value.mark), (inr (inl (omega (arith, ints, value.number))), tt))

    both_true : (a b : Bool) → (a && b) ≡ true → (a ≡ true) × (b ≡ true)
    both_true true b is = (refl, is)
    both_true false b is = absurd (true≢false (sym is))

    pub assumes_true : (block : ℕ) (body : List Instr) → ((instr : Instr) → Contains body instr → AllAgree it spots point vals (assume_parts instr.op)) → list_all (λ instr. is_assumed vals instr.op) body ≡ true → Each Says (flat_map (λ instr. assume_clauses it spots block instr.op) body)
    assumes_true block [] agree all = tt
    assumes_true block (instr ∷ body) agree all =
        let parts = both_true (is_assumed vals instr.op) (list_all (λ (other : Instr). is_assumed vals other.op) body) all in
        Each-append Says (assume_clauses it spots block instr.op) (flat_map (λ (other : Instr). assume_clauses it spots block other.op) body)
        (assume_true block instr.op (agree instr (in_here instr body)) parts.0) (assumes_true block body (λ other there. agree other (in_there instr other body there)) parts.1)

    -- ---- terminators

    module _ (at : ℕ) (next : List ℕ) where
      abbrev OnEdge : List ℕ → Type 0
      OnEdge label = pos 1 ≤ℤ number_at point (edge_to it spots at (place_with it.func label))

      abbrev case_label : Case → List ℕ
      case_label case = case.to

      -- the label to which a block goes, none where it returns
      goes_same : (a b : List ℕ) → Goes a ≡ Goes b → a ≡ b
      goes_same a b same = cc same

      branch_number : (when_set when_clear : List ℕ) (val : Val) → Some (branch when_set when_clear val) ≡ Some (Goes next) → (n : ℕ) × (val ≡ Num n) × (cond (eqb n 1) when_set when_clear ≡ next)
      branch_number when_set when_clear Poison same = absurd (cc same)
      branch_number when_set when_clear (Num n) same = (n, refl, cc same)

      choose_number : (default : List ℕ) (cases : List Case) (val : Val) → Some (choose default cases val) ≡ Some (Goes next) → (n : ℕ) × (val ≡ Num n) × (unwrap_or (lookup (λ value. eqb value n) (map (λ (case : Case). (case.value, case.to)) cases)) default ≡ next)
      choose_number default cases Poison same = absurd (cc same)
      choose_number default cases (Num n) same = (n, refl, cc same)

      fork_true : (same : Bool) (block : ℕ) (operand : Operand) (n : ℕ) (when_set when_clear : List ℕ) → IsNumber operand n → n < 2 → cond (eqb n 1) when_set when_clear ≡ next → (when_set ≡ next → OnEdge when_set) → (when_clear ≡ next → OnEdge when_clear)
          → Each Says (branch_clauses same block (operand_vars it spots operand).number (edge_to it spots at (place_with it.func when_set)) (edge_to it spots at (place_with it.func when_clear)))
      fork_true true block operand n when_set when_clear value few is when_one when_zero = tt
      fork_true false block operand n when_set when_clear value few is when_one when_zero =
          by_test (λ (test : Bool). cond test when_set when_clear ≡ next → eqb n 1 ≡ test → Each Says (branch_clauses false block (operand_vars it spots operand).number (edge_to it spots at (place_with it.func when_set)) (edge_to it spots at (place_with it.func when_clear)))) (eqb n 1)
          (λ yes to test.
          let one : n ≡ 1 = (Decides-eqb n 1).0 yes in
          (inr (inr (inl (when_one to))), (inr (inl (omega (arith, ints, value.number, one))), tt)))
          (λ no to test.
          let none : n ≡ 0 = small n few no in
          (inr (inl (omega (arith, ints, value.number, none))), (inr (inr (inl (when_zero to))), tt)))
          is refl
        where
          small : (n : ℕ) → n < 2 → eqb n 1 ≡ false → n ≡ 0
          small n few other = grind (arith, nat_tests)

      -- the clauses of the cases
      cases_true : (block number n : ℕ) → number_at point number ≡ pos n → (pairs : List (Case × ℕ)) → Each (IsCaseSaid point number) pairs → ((case : Case × ℕ) → Contains pairs case → case.0.value ≡ n → OnEdge case.0.to)
          → Each Says (flat_map (λ (case : Case × ℕ). case_clauses block number case.0.value case.1 (edge_to it spots at (place_with it.func case.0.to))) pairs)
      cases_true block number n is [] said when = tt
      cases_true block number n is (case ∷ pairs) said when =
          Each-append Says (case_clauses block number case.0.value case.1 (edge_to it spots at (place_with it.func case.0.to))) (flat_map (λ (other : Case × ℕ). case_clauses block number other.0.value other.1 (edge_to it spots at (place_with it.func other.0.to))) pairs)
          (case_true block number (edge_to it spots at (place_with it.func case.0.to)) case said.0 (λ one. inr (when case (in_here case pairs) (omega (arith, ints, said.0.says.0 one, is)))))
          (cases_true block number n is pairs said.1 (λ other there. when other (in_there case other pairs there)))

      -- some case is 1, or the default's edge
      some_true : (number n : ℕ) → number_at point number ≡ pos n → (default : List ℕ) (cases : List Case) (vars : List ℕ) → length cases ≤ length vars → Each (IsCaseSaid point number) (zip cases vars)
          → unwrap_or (lookup (λ value. eqb value n) (map (λ (case : Case). (case.value, case.to)) cases)) default ≡ next → (default ≡ next → OnEdge default)
          → Some_of (IsTrueAt rows point) (map (λ (case : Case × ℕ). is_on case.1) (zip cases vars) ++ is_on (edge_to it spots at (place_with it.func default)) ∷ [])
      some_true number n is default [] vars few said to when = inl (when to)
      some_true number n is default (case ∷ cases) [] few said to when = absurd (omega (arith, few))
      some_true number n is default (case ∷ cases) (var ∷ vars) few said to when =
          by_test (λ (test : Bool). unwrap_or (cond test (Some case.to) (lookup (λ value. eqb value n) (map (λ (case : Case). (case.value, case.to)) cases))) default ≡ next
          → Some_of (IsTrueAt rows point) (is_on var ∷ (map (λ (case : Case × ℕ). is_on case.1) (zip cases vars) ++ is_on (edge_to it spots at (place_with it.func default)) ∷ []))) (eqb case.value n)
          (λ yes found.
          let same : case.value ≡ n = (Decides-eqb case.value n).0 yes in
          let one = said.0.says.1 (omega (arith, ints, is, same)) in
          inl (omega (arith, ints, one)))
          (λ no found. inr (some_true number n is default cases vars (omega (arith, few)) said.1 found when))
          to

      agrees_with : (width : ℕ) (operand : Operand) (parts : List Operands) → AllAgree it spots point vals (Use operand width ∷ parts) → Agrees it spots point vals width operand
      agrees_with width operand parts agree = agree operand width (in_here (Use operand width) parts)

      -- a block that goes to the label
      pub goes_true : (terminator : End) (vars : List ℕ) → AllAgree it spots point vals (end_parts terminator) → length (cases_of terminator) ≤ length vars → end_repeated terminator ≡ None
          → Each (IsCaseSaid point (asked_var it spots terminator)) (zip (cases_of terminator) vars) → end_step it.func vals terminator ≡ Some (Goes next) → ((label : List ℕ) → Contains (targets_of terminator) label → label ≡ next → OnEdge label)
          → Each Says (end_clauses it spots at (zip (cases_of terminator) vars) terminator)
      goes_true end.RetVoid vars agree few apart said goes when = absurd (cc goes)
      goes_true (end.Ret width value) vars agree few apart said goes when =
          let agrees = agrees_with width value [] agree in
          absurd (never it.func.ret_noundef (on_number (ranged it.func.ret_range) (value_at (operand_vars it spots value) point)) (sym (ap (option_map (return_of it.func width)) agrees.value) ∙ goes))
        where
          never : (noundef : Bool) (val : Val) → Some (give noundef width val) ≡ Some (Goes next) → ⊥
          never true Poison same = cc same
          never false Poison same = cc same
          never true (Num n) same = cc same
          never false (Num n) same = cc same
      goes_true (end.Br to) vars agree few apart said goes when = tt
      goes_true (end.CondBr condition when_set when_clear) vars agree few apart said goes when =
          let agrees = agrees_with 1 condition (Goal when_set ∷ Goal when_clear ∷ []) agree in
          let (n, is, to) = branch_number when_set when_clear (value_at (operand_vars it spots condition) point) (sym (ap (option_map (branch when_set when_clear)) agrees.value) ∙ goes) in
          let value = number_of 1 condition n agrees is in
          let fits = agrees.fits.number in (
            inr (inl value.mark),
            fork_true (eqb (place_with it.func when_set) (place_with it.func when_clear)) (block_var spots at) condition n when_set when_clear value (omega (arith, ints, value.number, fits.1)) to
                (when when_set (in_here when_set (when_clear ∷ []))) (when when_clear (in_there when_set when_clear (when_clear ∷ []) (in_here when_clear []))),
          )
      goes_true (end.Switch width operand default cases) vars agree few apart said goes when =
          let agrees = agrees_with width operand (Goal default ∷ map (λ (case : Case). Goal case.to) cases) agree in
          let (n, is, to) = choose_number default cases (value_at (operand_vars it spots operand) point) (sym (ap (option_map (choose default cases)) agrees.value) ∙ goes) in
          let value = number_of width operand n agrees is in
          let number = (operand_vars it spots operand).number in (
            inr (inl value.mark),
            Each-append Says (flat_map (each_case it spots at number) (zip cases vars)) (default_clause (block_var spots at) (zip cases vars) (edge_to it spots at (place_with it.func default)) ∷ [])
                (cases_true (block_var spots at) number n value.number (zip cases vars) said (λ case there same.
                let among = first_in cases vars case there in
                let first : lookup (λ other. eqb other case.0.value) (map (λ (case : Case). (case.value, case.to)) cases) ≡ Some case.0.to = found_case cases apart case.0 among in
                let target : case.0.to ≡ next = sym (ap (λ (found : Option (List ℕ)). unwrap_or found default) first) ∙ ap (λ (m : ℕ). unwrap_or (lookup (λ other. eqb other m) (map (λ (case : Case). (case.value, case.to)) cases)) default) same ∙ to in
                when case.0.to (in_there default case.0.to (map case_label cases) (in_map case_label cases case.0 among)) target))
                (inr (some_true number n value.number default cases vars few said to (when default (in_here default (map case_label cases)))), tt),
          )
      goes_true end.Unreachable vars agree few apart said goes when = absurd (cc goes)

    -- a block that returns
    give_number : (width : ℕ) (val : Val) (result : RetVal) → Some (give true width val) ≡ Some (Returns result) → (n : ℕ) × (val ≡ Num n)
    give_number width Poison result same = absurd (cc same)
    give_number width (Num n) result same = (n, refl)

    within_range : (range : Option Range) (val : Val) (n : ℕ) → on_number (ranged range) val ≡ Num n → (k : ℕ) × (val ≡ Num k) × (is_in_range range k ≡ true)
    within_range range Poison n same = absurd (cc same)
    within_range range (Num k) n same = (k, refl, inside (is_in_range range k) same)
      where
        inside : (test : Bool) → poison_if (not test) k ≡ Num n → test ≡ true
        inside true is = refl
        inside false is = absurd (cc is)

    return_true : (noundef : Bool) (range : Option Range) (block width : ℕ) (operand : Operand) (result : RetVal) → Agrees it spots point vals width operand
        → Some (give noundef width (on_number (ranged range) (value_at (operand_vars it spots operand) point))) ≡ Some (Returns result) → Each Says (return_clauses noundef range block (operand_vars it spots operand))
    return_true true range block width operand result agrees same =
        let (n, is) = give_number width (on_number (ranged range) (value_at (operand_vars it spots operand) point)) result same in
        let (k, val, inside) = within_range range (value_at (operand_vars it spots operand) point) n is in
        let value = number_of width operand k agrees val in
        (inr (inl value.mark), ranged_true rows point block (operand_vars it spots operand) k value.number range inside)
    return_true false range block width operand result agrees same = tt

    pub returns_true : (at : ℕ) (terminator : End) (cases : List (Case × ℕ)) (result : RetVal) → AllAgree it spots point vals (end_parts terminator) → end_step it.func vals terminator ≡ Some (Returns result) → Each Says (end_clauses it spots at cases terminator)
    returns_true at end.RetVoid cases result agree is = tt
    returns_true at (end.Ret width value) cases result agree is =
        let agrees = agree value width (in_here (Use value width) []) in
        return_true it.func.ret_noundef it.func.ret_range (block_var spots at) width value result agrees (sym (ap (option_map (return_of it.func width)) agrees.value) ∙ is)
    returns_true at (end.Br to) cases result agree is = absurd (cc is)
    returns_true at (end.CondBr condition when_set when_clear) cases result agree is =
        let agrees = agree condition 1 (in_here (Use condition 1) (Goal when_set ∷ Goal when_clear ∷ [])) in
        absurd (never (value_at (operand_vars it spots condition) point) (sym (ap (option_map (branch when_set when_clear)) agrees.value) ∙ is))
      where
        never : (val : Val) → Some (branch when_set when_clear val) ≡ Some (Returns result) → ⊥
        never Poison same = cc same
        never (Num n) same = cc same
    returns_true at (end.Switch width value default written) cases result agree is =
        let agrees = agree value width (in_here (Use value width) (Goal default ∷ map (λ (case : Case). Goal case.to) written)) in
        absurd (never (value_at (operand_vars it spots value) point) (sym (ap (option_map (choose default written)) agrees.value) ∙ is))
      where
        never : (val : Val) → Some (choose default written val) ≡ Some (Returns result) → ⊥
        never Poison same = cc same
        never (Num n) same = cc same
    returns_true at end.Unreachable cases result agree is = absurd (cc is)

  -- ---- arguments

  given_true : (param : Param) (arg : ℕ) (value : ValueVars) → IsGiven point ((param, arg), value) → is_barred (param, arg) ≡ false → Each Says (strict_clauses (param, value))
  given_true param arg value given open_ =
      by_test (λ (test : Bool). (test && not (is_in_range param.range arg)) ≡ false → Each Says (cond test ((is_off value.mark ∷ []) ∷ []) [])) param.strict
      (λ strict inside.
      let number = by_range (is_in_range param.range arg) inside in
      (inl (mark_off value point arg given.mark (given.value ∙ number)).0, tt))
      (λ loose none. tt)
      open_
    where
      by_range : (test : Bool) → not test ≡ false → poison_if (not test) arg ≡ Num arg
      by_range true is = refl
      by_range false is = absurd (true≢false is)

  either_false : (a b : Bool) → (a || b) ≡ false → (a ≡ false) × (b ≡ false)
  either_false true b is = absurd (true≢false is)
  either_false false b is = (refl, is)

  pub strict_true : (params : List Param) (args : List ℕ) (values : List ValueVars) → length args ≡ length params → Each (IsGiven point) (zip (zip params args) values) → list_any is_barred (zip params args) ≡ false → Each Says (flat_map strict_clauses (zip params values))
  strict_true [] args values same given none = tt
  strict_true (param ∷ params) args [] same given none = tt
  strict_true (param ∷ params) [] (value ∷ values) same given none = absurd (omega (arith, same))
  strict_true (param ∷ params) (arg ∷ args) (value ∷ values) same given none =
      let parts = either_false (is_barred (param, arg)) (list_any is_barred (zip params args)) none in
      Each-append Says (strict_clauses (param, value)) (flat_map strict_clauses (zip params values)) (given_true param arg value given.0 parts.0) (strict_true params args values (omega (arith, same)) given.1 parts.1)
