-- Where the end of a block leads over numbers.
use Rattle.std.proofs.Common.{◌≡◌, ◌<◌, ◌^◌, ℕ, zero, suc, List, [], ◌∷◌, length, map, Bool, true, false, cond, ◌==◌, get_or, Some, None, refl, sym, ◌∙◌, ap, subst, arith}
use Rattle.std.specs.Prelude.{Contains}
use Rattle.std.specs.Option.{unwrap_or}
use Rattle.std.specs.Map.{lookup}
use Rattle.std.proofs.lemmas.Bool.{eqb-true}
use Rattle.std.proofs.lemmas.List.{get_or-set_same}
use Rattle.ll_tree.specs.declared.op.Pred.{Pred}
use Rattle.ll_links.specs.declared.link.Source.{Source}
use Rattle.ir_meaning.specs.declared.value.Val.{Val}
use Rattle.ir_meaning.specs.declared.value.Val.TheVariants.{Num, Poison}
use Rattle.ir_meaning.specs.Whole.{IsWidth}
use Rattle.ir_meaning.specs.Value.{on_number, FitsWidth}
use Rattle.ir_runs.specs.Values.{ranged}
use Rattle.ir_meaning.specs.Compare.{holds, cmp_of}
use Rattle.ir_runs.specs.Walk.{Returns}
use Rattle.ir_runs.specs.declared.ret_val.RetVal.{RetVal}
use Rattle.ir_runs.specs.declared.ret_val.RetVal.TheVariants as ret
use Rattle.ir_runner.specs.declared.code.Exit.{Exit}
use Rattle.ir_runner.specs.declared.code.Exit.TheVariants as exit
use Rattle.ir_runner.specs.declared.code.Jump.{Jump}
use Rattle.ir_runner.specs.declared.code.Step.{Step}
use Rattle.ir_runner.specs.Slots.{slot_value, op_result, CanCompute, slots_after, CanRun, CanMove}
use Rattle.ir_runner.specs.Leads.{Jumps, Stops, exit_leads, CanExit, branch_leads, switch_leads, give_leads}
use Rattle.ir_runner.specs.Leads as code
use Rattle.number_runner.specs.declared.code.Fork.{Fork}
use Rattle.number_runner.specs.declared.code.NumberCase.{NumberCase}
use Rattle.number_runner.specs.declared.code.NumberExit.{NumberExit}
use Rattle.number_runner.specs.declared.code.NumberExit.TheVariants.{Branch, Switch}
use Rattle.number_runner.specs.declared.code.NumberJump.{NumberJump}
use Rattle.number_runner.specs.declared.leave.Way.{Way}
use Rattle.number_runner.specs.declared.leave.Way.TheVariants as way
use Rattle.number_runner.specs.Steps.{no_flags, value}
use Rattle.number_runner.specs.Stands.{jump_of, case_of, compared, compares, tail_of, forks, IsExit}
use Rattle.number_runner.specs.Costs.{ways, jumps_of}
use Rattle.number_runner.specs.Ways.{CanLeave, GoesAlong, chosen, told, CanTake, IsTaken, Ends, IsWay, case_jump}
use Rattle.number_runner.proofs.BiasLaws.{by_test}
use Rattle.number_runner.proofs.NumberLaws.{low_of, number_at}
use Rattle.number_runner.proofs.StepLaws.{none_after, one_can, one_after}

-- ---- along an edge

module _ (numbers : List ℕ) (exit : NumberExit) (slots : List Val) (ran : slots_after (tail_of exit) (map Num numbers) ≡ Some slots) (jump : NumberJump) (leads : (code : Exit) → IsExit code exit → exit_leads slots code ≡ Jumps (jump_of jump)) where
  pub can_go : CanLeave (map Num numbers) exit → CanMove jump.moves slots
  can_go can = can.moves slots (jump_of jump) ran (leads can.code can.is)

  pub goes : Contains (jumps_of exit) jump → (after : List ℕ) (is : Way) → GoesAlong slots jump after is → IsWay numbers exit after is
  goes among after (way.To to edge block) along = record { slots = slots; ran = ran; jump = jump; leads = leads; among = among; along = along }
  goes among after way.Returns along = elim along [ ]
  goes among after way.Left along = tt

-- ---- a comparison and the branch on it

one_or_other : (test : Bool) (fork : Fork) → branch_leads (jump_of fork.on_one) (jump_of fork.on_zero) (Num (cond test 1 0)) ≡ Jumps (jump_of (chosen fork test))
one_or_other true fork = refl
one_or_other false fork = refl

one_of_ways : (test : Bool) (fork : Fork) → Contains (ways fork) (chosen fork test)
one_of_ways true fork = (0, omega arith, refl)
one_of_ways false fork = (1, omega arith, refl)

module _ (numbers : List ℕ) (exit : NumberExit) (pred : Pred) (fork : Fork) (tail : tail_of exit ≡ compares pred fork) (forked : (code : Exit) → IsExit code exit → code ≡ forks fork) (can : CanLeave (map Num numbers) exit) where
  abbrev slots : List Val
  slots = map Num numbers

  both : (fork.to < length slots) × CanCompute slots (compared pred fork)
  both = one_can (compared pred fork) fork.to slots (subst (λ (steps : List Step). CanRun steps slots) tail can.tail)

  pub left_low : fork.left < length numbers
  left_low = low_of numbers fork.left both.1.left.there

  -- the comparison comes out so
  abbrev pub Tells : Bool → Type 0
  Tells test = (some : 0 < fork.mask.width) → get_or numbers fork.left 0 < 2 ^ fork.mask.width → fork.number < 2 ^ fork.mask.width → holds pred fork.mask.width (get_or numbers fork.left 0) fork.number ≡ test

  module _ (test : Bool) (tells : Tells test) where
    left_is : get_or slots fork.left Poison ≡ Num (get_or numbers fork.left 0)
    left_is = number_at numbers fork.left (get_or numbers fork.left 0) left_low refl

    is : holds pred fork.mask.width (get_or numbers fork.left 0) fork.number ≡ test
    is =
        let wide : IsWidth fork.mask.width = both.1.width in
        tells (omega (arith, wide.least)) (subst (FitsWidth fork.mask.width) left_is both.1.left.fits) both.1.right.fits

    result : op_result slots (compared pred fork) ≡ Num (cond test 1 0)
    result = ap (λ (v : Val). cmp_of pred no_flags fork.mask.width v (Num fork.number)) left_is ∙ ap (λ (b : Bool). Num (cond b 1 0)) is

    ran : slots_after (tail_of exit) slots ≡ Some (told fork test slots)
    ran = ap (λ (steps : List Step). slots_after steps slots) tail ∙ one_after (compared pred fork) fork.to slots (Num (cond test 1 0)) result

    leads : (code : Exit) → IsExit code exit → exit_leads (told fork test slots) code ≡ Jumps (jump_of (chosen fork test))
    leads code is_exit =
        ap (exit_leads (told fork test slots)) (forked code is_exit)
        ∙ ap (branch_leads (jump_of fork.on_one) (jump_of fork.on_zero)) (get_or-set_same slots fork.to (Num (cond test 1 0)) Poison both.0)
        ∙ one_or_other test fork

    pub can_take : CanTake slots fork test
    can_take = record { there = both.0; moves = can_go numbers exit (told fork test slots) ran (chosen fork test) leads can }

    pub taken : jumps_of exit ≡ ways fork → (after : List ℕ) (is : Way) → IsTaken numbers fork test after is → IsWay numbers exit after is
    taken jumps after is along =
        goes numbers exit (told fork test slots) ran (chosen fork test) leads (subst (λ (all : List NumberJump). Contains all (chosen fork test)) (sym jumps) (one_of_ways test fork)) after is along

-- ---- the other ends

module _ (numbers : List ℕ) (exit : NumberExit) (no_tail : tail_of exit ≡ []) where
  pub stays : slots_after (tail_of exit) (map Num numbers) ≡ Some (map Num numbers)
  stays = ap (λ (steps : List Step). slots_after steps (map Num numbers)) no_tail ∙ none_after (map Num numbers)

  pub can_exit : (can : CanLeave (map Num numbers) exit) → CanExit (map Num numbers) can.code
  can_exit can = can.ends (map Num numbers) stays

  pub ends_so : ((code : Exit) → IsExit code exit → (result : RetVal) × (exit_leads (map Num numbers) code ≡ Stops (Returns result))) → Ends numbers exit
  ends_so ends = record { slots = map Num numbers; ran = stays; ends = ends }

pub branch_low : (numbers : List ℕ) (end : NumberExit) (id : ℕ) (on_one on_zero : NumberJump) → end ≡ Branch id on_one on_zero → CanLeave (map Num numbers) end → id < length numbers
branch_low numbers end id on_one on_zero is can =
    low_of numbers id (subst (CanExit (map Num numbers)) (subst (IsExit can.code) is can.is) (can_exit numbers end (ap tail_of is) can))

pub switch_low : (numbers : List ℕ) (end : NumberExit) (id : ℕ) (default : NumberJump) (cases : List NumberCase) → end ≡ Switch id default cases → CanLeave (map Num numbers) end → id < length numbers
switch_low numbers end id default cases is can =
    low_of numbers id (subst (CanExit (map Num numbers)) (subst (IsExit can.code) is can.is) (can_exit numbers end (ap tail_of is) can))

module _ (numbers : List ℕ) (id : ℕ) (low : id < length numbers) where
  pub branch_one : (on_one on_zero : Jump) → get_or numbers id 0 ≡ 1 → exit_leads (map Num numbers) (exit.CondBr (value id) on_one on_zero) ≡ Jumps on_one
  branch_one on_one on_zero one =
      let test : (get_or numbers id 0 == 1) ≡ true = ap (λ (n : ℕ). n == 1) one in
      ap (branch_leads on_one on_zero) (number_at numbers id (get_or numbers id 0) low refl) ∙ ap (λ (b : Bool). Jumps (cond b on_one on_zero)) test

  pub branch_zero : (on_one on_zero : Jump) → (get_or numbers id 0 ≡ 1 → ⊥) → exit_leads (map Num numbers) (exit.CondBr (value id) on_one on_zero) ≡ Jumps on_zero
  branch_zero on_one on_zero other =
      let test : (get_or numbers id 0 == 1) ≡ false = by_test (λ b. b ≡ false) (get_or numbers id 0 == 1) (λ same. absurd (other (eqb-true (get_or numbers id 0) 1 same))) (λ differs. refl) in
      ap (branch_leads on_one on_zero) (number_at numbers id (get_or numbers id 0) low refl) ∙ ap (λ (b : Bool). Jumps (cond b on_one on_zero)) test

-- a switch, case by case
jump_found : (n : ℕ) (default : NumberJump) (cases : List NumberCase) → code.case_jump n (jump_of default) (map case_of cases) ≡ jump_of (case_jump n default cases)
jump_found n default [] = refl
jump_found n default (case ∷ cases) = by_case (case.value == n) (jump_found n default cases)
  where
    by_case : (test : Bool) → code.case_jump n (jump_of default) (map case_of cases) ≡ jump_of (case_jump n default cases)
        → unwrap_or (cond test (Some (jump_of case.jump)) (lookup (λ (v : ℕ). v == n) (map (λ case. (case.value, case.jump)) (map case_of cases)))) (jump_of default)
        ≡ jump_of (unwrap_or (cond test (Some case.jump) (lookup (λ (v : ℕ). v == n) (map (λ (case : NumberCase). (case.value, case.jump)) cases))) default)
    by_case true later = refl
    by_case false later = later

jump_among : (n : ℕ) (default : NumberJump) (cases : List NumberCase) → Contains (default ∷ map (λ (case : NumberCase). case.jump) cases) (case_jump n default cases)
jump_among n default [] = (0, omega arith, refl)
jump_among n default (case ∷ cases) = by_case (case.value == n) (jump_among n default cases)
  where
    by_case : (test : Bool) → Contains (default ∷ map (λ (case : NumberCase). case.jump) cases) (case_jump n default cases)
        → Contains (default ∷ case.jump ∷ map (λ (case : NumberCase). case.jump) cases) (unwrap_or (cond test (Some case.jump) (lookup (λ (v : ℕ). v == n) (map (λ (case : NumberCase). (case.value, case.jump)) cases))) default)
    by_case true later = (1, omega arith, refl)
    by_case false (zero, within, is) = (0, omega arith, is)
    by_case false (suc k, within, is) = (suc (suc k), omega (arith, within), is)

module _ (numbers : List ℕ) (id : ℕ) (default : NumberJump) (cases : List NumberCase) (low : id < length numbers) where
  abbrev pub found : NumberJump
  found = case_jump (get_or numbers id 0) default cases

  pub switch_to : exit_leads (map Num numbers) (exit.Switch (value id) (jump_of default) (map case_of cases)) ≡ Jumps (jump_of found)
  switch_to = ap (switch_leads (jump_of default) (map case_of cases)) (number_at numbers id (get_or numbers id 0) low refl) ∙ ap Jumps (jump_found (get_or numbers id 0) default cases)

  pub switch_among : Contains (default ∷ map (λ (case : NumberCase). case.jump) cases) found
  switch_among = jump_among (get_or numbers id 0) default cases

pub returned : (vals : List Val) (from : Source) (n width : ℕ) (noundef : Bool) → slot_value vals from ≡ Num n → exit_leads vals (exit.Ret width noundef None from) ≡ Stops (Returns (ret.Num width n))
returned vals from n width noundef is = ap (λ (v : Val). give_leads noundef width (on_number (ranged None) v)) is
