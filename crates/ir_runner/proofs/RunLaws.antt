-- Steps, moves and cases from one on.
use Rattle.std.proofs.Common.{◌≡◌, ◌<◌, ◌≤◌, ◌+◌, ℕ, List, ◌∷◌, length, Bool, true, cond, drop, get_or, set, Some, None, ◌∙◌, ap, subst}
use Rattle.std.proofs.lemmas.List.{drop_more, drop_all}
use Rattle.ll_links.specs.declared.link.Source.{Source}
use Rattle.ir_meaning.specs.declared.value.Val.{Val}
use Rattle.ir_runner.specs.declared.code.PhiMove.{PhiMove}
use Rattle.ir_runner.specs.declared.code.Step.{Step}
use Rattle.ir_runner.specs.declared.code.Step.TheVariants.{Give, Assume}
use Rattle.ir_runner.specs.declared.code.StepOp.{StepOp}
use Rattle.ir_runner.specs.Slots.{slot_value, IsThere, op_result, CanCompute, holds, slots_after, CanRun, moved, CanMove}

module _ (steps : List Step) (i : ℕ) (default : Step) (slots : List Val) (low : i < length steps) where
  front : (step : Step) → get_or steps i default ≡ step → drop i steps ≡ step ∷ drop (i + 1) steps
  front step is = drop_more steps i default low ∙ ap (λ (s : Step). s ∷ drop (i + 1) steps) is

  pub give_can : (op : StepOp) (to : ℕ) → get_or steps i default ≡ Give op to → CanRun (drop i steps) slots → (to < length slots) × CanCompute slots op × CanRun (drop (i + 1) steps) (set slots to (op_result slots op))
  unfolding CanRun
  give_can op to is can = subst (λ (all : List Step). CanRun all slots) (front (Give op to) is) can

  pub give_after : (op : StepOp) (to : ℕ) → get_or steps i default ≡ Give op to → slots_after (drop i steps) slots ≡ slots_after (drop (i + 1) steps) (set slots to (op_result slots op))
  unfolding slots_after
  give_after op to is = ap (λ (all : List Step). slots_after all slots) (front (Give op to) is)

  pub assume_can : (from : Source) → get_or steps i default ≡ Assume from → CanRun (drop i steps) slots → IsThere slots from × (holds slots from ≡ true → CanRun (drop (i + 1) steps) slots)
  unfolding CanRun
  assume_can from is can = subst (λ (all : List Step). CanRun all slots) (front (Assume from) is) can

  pub assume_after : (from : Source) (passed : Bool) → get_or steps i default ≡ Assume from → holds slots from ≡ passed → slots_after (drop i steps) slots ≡ cond passed (slots_after (drop (i + 1) steps) slots) None
  unfolding slots_after
  assume_after from passed is test =
      ap (λ (all : List Step). slots_after all slots) (front (Assume from) is)
      ∙ ap (λ (b : Bool). cond b (slots_after (drop (i + 1) steps) slots) None) test

pub after_all : (steps : List Step) (i : ℕ) (slots : List Val) → length steps ≤ i → slots_after (drop i steps) slots ≡ Some slots
unfolding slots_after
after_all steps i slots past = ap (λ (all : List Step). slots_after all slots) (drop_all i steps past)

module _ (moves : List PhiMove) (i : ℕ) (move : PhiMove) (slots : List Val) (low : i < length moves) where
  pub move_can : CanMove (drop i moves) slots → ((get_or moves i move).to < length slots) × IsThere slots (get_or moves i move).source × CanMove (drop (i + 1) moves) (set slots (get_or moves i move).to (slot_value slots (get_or moves i move).source))
  unfolding CanMove
  move_can can = subst (λ (all : List PhiMove). CanMove all slots) (drop_more moves i move low) can

  pub move_after : moved (drop i moves) slots ≡ moved (drop (i + 1) moves) (set slots (get_or moves i move).to (slot_value slots (get_or moves i move).source))
  unfolding moved
  move_after = ap (λ (all : List PhiMove). moved all slots) (drop_more moves i move low)

pub moved_all : (moves : List PhiMove) (i : ℕ) (slots : List Val) → length moves ≤ i → moved (drop i moves) slots ≡ slots
unfolding moved
moved_all moves i slots past = ap (λ (all : List PhiMove). moved all slots) (drop_all i moves past)
