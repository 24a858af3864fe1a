-- Steps one behind the other.
use Rattle.std.proofs.Common.{◌≡◌, ◌<◌, ◌+◌, ℕ, List, [], ◌∷◌, ◌++◌, length, map, Bool, true, false, cond, drop, get_or, set, Option, Some, None, refl, sym, ◌∙◌, ap, subst}
use Rattle.std.proofs.Math.ListN.{length-set}
use Rattle.std.proofs.lemmas.List.{get_or-map, length-map, map-set}
use Rattle.std.proofs.lemmas.Option.{same_Some}
use Rattle.ll_links.specs.declared.link.Source.{Source}
use Rattle.ir_meaning.specs.declared.value.Val.{Val}
use Rattle.ir_meaning.specs.declared.value.Val.TheVariants.{Num}
use Rattle.ir_runner.specs.declared.code.PhiMove.{PhiMove}
use Rattle.ir_runner.specs.declared.code.Step.{Step}
use Rattle.ir_runner.specs.declared.code.Step.TheVariants.{Give, Assume}
use Rattle.ir_runner.specs.declared.code.StepOp.{StepOp}
use Rattle.ir_runner.specs.Slots.{IsThere, op_result, CanCompute, holds, slots_after, CanRun, CanMove}
use Rattle.ir_runner.proofs.RunLaws as run
use Rattle.number_runner.specs.declared.code.NumberStep.{NumberStep}
use Rattle.number_runner.specs.Steps.{step_of}

none_is_some : {X : Type 0} (x : X) → None ≡ Some x → ⊥
none_is_some x same = cc

must_pass : (passed : Bool) (found : Option (List Val)) (now : List Val) → cond passed found None ≡ Some now → (passed ≡ true) × (found ≡ Some now)
must_pass true found now is = (refl, is)
must_pass false found now is = absurd (none_is_some now is)

passed_on : (passed : Bool) (found all last : Option (List Val)) (now : List Val) → (found ≡ Some now → all ≡ last) → cond passed found None ≡ Some now → cond passed all None ≡ last
passed_on true found all last now more is = more is
passed_on false found all last now more is = absurd (none_is_some now is)

-- ---- a front and what is behind it

pub after_append : (front back : List Step) (slots now : List Val) → slots_after front slots ≡ Some now → slots_after (front ++ back) slots ≡ slots_after back now
unfolding slots_after
after_append [] back slots now is = ap (slots_after back) (same_Some slots now is)
after_append (Give op to ∷ front) back slots now is = after_append front back (set slots to (op_result slots op)) now is
after_append (Assume from ∷ front) back slots now is = passed_on (holds slots from) (slots_after front slots) (slots_after (front ++ back) slots) (slots_after back now) now (after_append front back slots now) is

pub can_front : (front back : List Step) (slots : List Val) → CanRun (front ++ back) slots → CanRun front slots
unfolding CanRun
can_front [] back slots can = tt
can_front (Give op to ∷ front) back slots can = (can.0, can.1, can_front front back (set slots to (op_result slots op)) can.2)
can_front (Assume from ∷ front) back slots can = (can.0, λ passed. can_front front back slots (can.1 passed))

pub can_back : (front back : List Step) (slots now : List Val) → CanRun (front ++ back) slots → slots_after front slots ≡ Some now → CanRun back now
unfolding CanRun slots_after
can_back [] back slots now can is = subst (CanRun back) (same_Some slots now is) can
can_back (Give op to ∷ front) back slots now can is = can_back front back (set slots to (op_result slots op)) now can.2 is
can_back (Assume from ∷ front) back slots now can is =
    let passed = must_pass (holds slots from) (slots_after front slots) now is in
    can_back front back slots now (can.1 passed.0) passed.1

pub none_after : (slots : List Val) → slots_after [] slots ≡ Some slots
unfolding slots_after
none_after slots = refl

pub one_can : (op : StepOp) (to : ℕ) (slots : List Val) → CanRun (Give op to ∷ []) slots → (to < length slots) × CanCompute slots op
unfolding CanRun
one_can op to slots can = (can.0, can.1)

pub one_after : (op : StepOp) (to : ℕ) (slots : List Val) (val : Val) → op_result slots op ≡ val → slots_after (Give op to ∷ []) slots ≡ Some (set slots to val)
unfolding slots_after
one_after op to slots val is = ap (λ (v : Val). Some (set slots to v)) is

-- ---- the step at an index

pub as_numbers : (numbers : List ℕ) (to number : ℕ) (val : Val) → val ≡ Num number → set (map Num numbers) to val ≡ map Num (set numbers to number)
as_numbers numbers to number val is = ap (set (map Num numbers) to) is ∙ sym (map-set Num numbers to number)

-- what a loop over the steps keeps
abbrev pub Kept : List NumberStep → ℕ → List ℕ → List ℕ → Type 0
Kept steps i numbers first = record {
  can : CanRun (drop i (map step_of steps)) (map Num numbers);
  after : slots_after (drop i (map step_of steps)) (map Num numbers) ≡ slots_after (map step_of steps) (map Num first);
  count : length numbers ≡ length first;
}

module _ (steps : List NumberStep) (i : ℕ) (step : NumberStep) (numbers : List ℕ) (within : i < length steps) (at : step ≡ get_or steps i step) where
  abbrev rest : List Step
  rest = drop (i + 1) (map step_of steps)

  low : i < length (map step_of steps)
  low = subst (λ (n : ℕ). i < n) (sym (length-map steps step_of)) within

  here : get_or (map step_of steps) i (step_of step) ≡ step_of step
  here = get_or-map step_of steps i step (step_of step) within ∙ ap step_of (sym at)

  module _ (op : StepOp) (to : ℕ) (is : step_of step ≡ Give op to) (can : CanRun (drop i (map step_of steps)) (map Num numbers)) where
    all : (to < length (map Num numbers)) × CanCompute (map Num numbers) op × CanRun rest (set (map Num numbers) to (op_result (map Num numbers) op))
    all = run.give_can (map step_of steps) i (step_of step) (map Num numbers) low op to (here ∙ is) can

    pub to_low : to < length numbers
    to_low = subst (λ (n : ℕ). to < n) (length-map numbers Num) all.0

    pub can_compute : CanCompute (map Num numbers) op
    can_compute = all.1

    module _ (number : ℕ) (result : op_result (map Num numbers) op ≡ Num number) where
      pub can_more : CanRun rest (map Num (set numbers to number))
      can_more = subst (CanRun rest) (as_numbers numbers to number (op_result (map Num numbers) op) result) all.2

      pub after_more : slots_after (drop i (map step_of steps)) (map Num numbers) ≡ slots_after rest (map Num (set numbers to number))
      after_more =
          run.give_after (map step_of steps) i (step_of step) (map Num numbers) low op to (here ∙ is)
          ∙ ap (slots_after rest) (as_numbers numbers to number (op_result (map Num numbers) op) result)

      pub given_kept : (first now : List ℕ) → slots_after (drop i (map step_of steps)) (map Num numbers) ≡ slots_after (map step_of steps) (map Num first) → length numbers ≡ length first → now ≡ set numbers to number → Kept steps (i + 1) now first
      given_kept first now after count now_is =
          subst (λ (ns : List ℕ). Kept steps (i + 1) ns first) (sym now_is)
          (record { can = can_more; after = sym after_more ∙ after; count = length-set numbers to number ∙ count })

  module _ (from : Source) (is : step_of step ≡ Assume from) where
    pub assume_can : CanRun (drop i (map step_of steps)) (map Num numbers) → IsThere (map Num numbers) from × (holds (map Num numbers) from ≡ true → CanRun rest (map Num numbers))
    assume_can can = run.assume_can (map step_of steps) i (step_of step) (map Num numbers) low from (here ∙ is) can

    pub assume_after : holds (map Num numbers) from ≡ true → slots_after (drop i (map step_of steps)) (map Num numbers) ≡ slots_after rest (map Num numbers)
    assume_after passed = run.assume_after (map step_of steps) i (step_of step) (map Num numbers) low from true (here ∙ is) passed

    pub assume_kept : (first now : List ℕ) → Kept steps i numbers first → holds (map Num numbers) from ≡ true → now ≡ numbers → Kept steps (i + 1) now first
    assume_kept first now kept passed now_is =
        subst (λ (ns : List ℕ). Kept steps (i + 1) ns first) (sym now_is)
        (record { can = (assume_can kept.can).1 passed; after = sym (assume_after passed) ∙ kept.after; count = kept.count })

-- ---- the phi at an index

pub move_low : (moves : List PhiMove) (i : ℕ) (default : PhiMove) (numbers : List ℕ) → i < length moves → CanMove (drop i moves) (map Num numbers) → (get_or moves i default).to < length numbers
move_low moves i default numbers within can = subst (λ (n : ℕ). (get_or moves i default).to < n) (length-map numbers Num) (run.move_can moves i default (map Num numbers) within can).0
